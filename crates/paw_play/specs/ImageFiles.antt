-- What a file holds that is loaded as an image.
use Rattle.std.specs.Prelude.{◌≡◌, ℕ, Some}
use Rattle.paw_base.specs.Bytes.{Bytes, Name}
use Rattle.paw_game.specs.Game.{GameLists}
use Rattle.paw_image.specs.Damage.{bad}
use Rattle.paw_image.specs.Images.{IsImage}
use Rattle.paw_stage.specs.Stage.{Standing}

-- The file of this name holds the image of this game.
abbrev pub Holds : Standing → Name → GameLists → Type 0
Holds s name g = (bytes : Bytes) × (s.files name ≡ Some bytes) × IsImage bytes g

-- The file of this name holds no image of a valid game; the first rule that its bytes break is broken at this offset.
abbrev pub HoldsDamage : Standing → Name → ℕ → Type 0
HoldsDamage s name at = (bytes : Bytes) × (s.files name ≡ Some bytes) × ((g : GameLists) → ¬ IsImage bytes g)
    × (bad bytes ≡ Some at)
