-- The bounds within which each reading stays.
use Rattle.std.specs.Prelude.{◌≡◌, ◌≤◌, length, All}
use Rattle.paw_base.specs.Bytes.{Line}
use Rattle.paw_base.specs.declared.limits.TheConstants.{LINE_LIMIT}
use Rattle.paw_game.specs.Valid.{Valid}
use Rattle.paw_effects.specs.Standing.{AreBytes}
use Rattle.paw_effects.specs.Story.{Story}

-- A line of at most 255 bytes.
pub record IsLine (line : Line) : Type 0 where
  pub short : length line ≤ LINE_LIMIT
  pub bytes : AreBytes line

-- The game follows its rules, and each routine has 256 answers, all of them bytes.
pub record ValidStory (g : Story) : Type 0 where
  pub game : Valid g.game
  pub whole : All (λ row. length row ≡ 256) g.answers
  pub bytes : All AreBytes g.answers
