-- How compiling a source ends: words that contracts between crates and proofs use besides those of specs/Compile.antt.
use Rattle.std.specs.Prelude.{◌≡◌, ◌⊎◌, Result, Err, Option, Some}
use Rattle.paw_base.specs.Bytes.{Bytes, Name, Text}
use Rattle.paw_base.specs.declared.fault.SourceFault.{SourceFault}
use Rattle.paw_game.specs.Game.{GameLists}
use Rattle.paw_stage.specs.Stage.{Standing, Saves}
use Rattle.paw_stage.specs.declared.StageCall.TheVariants as call
use Rattle.paw_top.specs.Shows.{Shows}
use Rattle.paw_top.specs.declared.outcome.Outcome.{Outcome}
use Rattle.paw_top.specs.declared.outcome.Outcome.TheVariants as outcome

-- ---- on the way ----

-- Why a source that reads this way gives no image: its fault, or lack of memory.
abbrev pub IsRefusal : Result GameLists SourceFault → Outcome → Type 0
IsRefusal read (outcome.SourceRefused fault) = read ≡ Err fault
IsRefusal read (outcome.Memory at) = Unit {0}
IsRefusal read _ = ⊥

-- How saving a file and then showing a line ends, and what it leaves.
abbrev pub SavesSo : Name → Bytes → Text → Standing → Standing → Outcome → Type 0
SavesSo name bytes line old new (outcome.Outside call.Save) =
    (new ≡ old) ⊎ ((left : Option Bytes) × Saves old new name left)
SavesSo name bytes line old new o = (mid : Standing) × Saves old mid name (Some bytes) × Shows line mid new o
