-- What loading an image file gives.
use Rattle.std.specs.Prelude.{◌≡◌, Option, Some, None, Result, Ok, Err}
use Rattle.paw_base.specs.Bytes.{Bytes, Name}
use Rattle.paw_game.specs.Game.{GameLists}
use Rattle.paw_image.specs.Damage.{bad}
use Rattle.paw_image.specs.Images.{IsImage}
use Rattle.paw_stage.specs.Stage.{Standing}
use Rattle.paw_stage.specs.declared.StageCall.{StageCall}
use Rattle.paw_stage.specs.declared.StageCall.TheVariants as call
use Rattle.paw_host.specs.Outcomes.{host_failure}
use Rattle.paw_host.specs.declared.outcome.HostOutcome.{HostOutcome}
use Rattle.paw_host.specs.declared.outcome.HostOutcome.TheVariants as outcome

-- The call that failed, where there is an outcome only if something failed.
abbrev pub host_failure_or : {A : Type 0} → Result A HostOutcome → Option StageCall
host_failure_or (Ok a) = None
host_failure_or (Err o) = host_failure o

-- A load that gave nothing, by its answer; nothing is changed.
abbrev pub ReadsNoImage : Name → Standing → Standing → HostOutcome → Type 0
ReadsNoImage name old new (outcome.Outside call.LoadAbsent) = (old.files name ≡ None) × (new ≡ old)
ReadsNoImage name old new (outcome.Outside call.Load) = new ≡ old
ReadsNoImage name old new outcome.Memory = new ≡ old
ReadsNoImage name old new _ = ⊥

-- Why bytes give no game: they are no image of a valid one, or memory was lacking.
abbrev pub OpensNone : Bytes → HostOutcome → Type 0
OpensNone bytes (outcome.ImageDamaged at) = ((g : GameLists) → ¬ IsImage bytes g) × (bad bytes ≡ Some at)
OpensNone bytes outcome.Memory = Unit {0}
OpensNone bytes _ = ⊥
