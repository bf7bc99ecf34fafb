-- Games that never keep a position.
use Rattle.std.specs.Prelude.{◌≡◌, ◌≢◌, ℕ, Some}
use Rattle.paw_base.specs.declared.codes.TheConstants.{SAVE}
use Rattle.paw_base.specs.declared.parts.Condact.{Condact}
use Rattle.paw_game.specs.Game.{GameLists}
use Rattle.paw_game.specs.Tables.{condact_at}

-- No condact of the game's tables is SAVE. LOAD may stand there: it finds no position to take back.
abbrev pub NeverSaves : GameLists → Type 0
NeverSaves g = (t e k : ℕ) (c : Condact) → condact_at g t e k ≡ Some c → c.code ≢ SAVE
