-- Opening the game of an image file.
use Rattle.std.specs.Prelude.{◌≡◌, ℕ, None}
use Rattle.paw_base.specs.Bytes.{Name}
use Rattle.paw_stage.specs.Stage.{Standing}
use Rattle.paw_stage.specs.declared.StageCall.TheVariants as call
use Rattle.paw_play.specs.ImageFiles.{HoldsDamage}
use Rattle.paw_top.specs.declared.outcome.Outcome.{Outcome}
use Rattle.paw_top.specs.declared.outcome.Outcome.TheVariants as outcome
use Rattle.paw_top.specs.declared.outcome.MemoryAt.{MemoryAt}

-- Why a file gives no game: it is no image of a valid one, and the offset of its first damage is named; it isn't there;
-- it couldn't be loaded; or memory was lacking. Nothing is changed.
pub data Unopened (name : Name) (old new : Standing) : Outcome → Type 0 where
  damaged : (at : ℕ) → HoldsDamage old name at → new ≡ old → Unopened name old new (outcome.ImageDamaged at)
  absent : old.files name ≡ None → new ≡ old → Unopened name old new (outcome.Outside call.LoadAbsent)
  failed : new ≡ old → Unopened name old new (outcome.Outside call.Load)
  without_memory : (at : MemoryAt) → new ≡ old → Unopened name old new (outcome.Memory at)
