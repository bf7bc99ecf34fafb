-- How loading a file ends, by its answer.
use Rattle.std.specs.Prelude.{◌≡◌, Some, None}
use Rattle.paw_base.specs.Bytes.{Bytes, Name}
use Rattle.paw_game.specs.Game.{GameLists}
use Rattle.paw_image.specs.Damage.{bad}
use Rattle.paw_image.specs.Images.{IsImage}
use Rattle.paw_stage.specs.Stage.{Standing}
use Rattle.paw_stage.specs.declared.StageCall.TheVariants as call
use Rattle.paw_top.specs.declared.outcome.Outcome.{Outcome}
use Rattle.paw_top.specs.declared.outcome.Outcome.TheVariants as outcome

-- The file of this name holds no image of a valid game.
abbrev pub HoldsNone : Standing → Name → Type 0
HoldsNone s name = (bytes : Bytes) × (s.files name ≡ Some bytes) × ((g : GameLists) → ¬ IsImage bytes g)

-- A load that gave nothing, by its answer; nothing is changed.
abbrev pub LoadsNone : Name → Standing → Standing → Outcome → Type 0
LoadsNone name old new (outcome.Outside call.LoadAbsent) = (old.files name ≡ None) × (new ≡ old)
LoadsNone name old new (outcome.Outside call.Load) = new ≡ old
LoadsNone name old new (outcome.Memory at) = new ≡ old
LoadsNone name old new _ = ⊥

-- Why bytes that were loaded give no game: they are no image of a valid one, or memory was lacking.
abbrev pub GivesNone : Bytes → Outcome → Type 0
GivesNone bytes (outcome.ImageDamaged at) = ((g : GameLists) → ¬ IsImage bytes g) × (bad bytes ≡ Some at)
GivesNone bytes (outcome.Memory at) = Unit {0}
GivesNone bytes _ = ⊥
