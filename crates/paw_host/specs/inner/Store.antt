-- What is known of the attached store before calls, and what they did to the stage.
use Rattle.std.specs.Prelude.{◌≡◌, List, Option, Some}
use Rattle.paw_base.specs.Bytes.{Name}
use Rattle.paw_stage.specs.declared.Stage.{Ghosts}
use Rattle.paw_stage.specs.declared.StageCall.{StageCall}
use Rattle.paw_stage.specs.Disk.{IsStable}
use Rattle.paw_stage.specs.Stage.{Standing, file_bytes}
use Rattle.paw_stage.specs.AcrossCalls.{FailsOnlyBy, IfTelling}

-- The store of this name is attached, and a crash leaves just its bytes.
pub record IsAttachedStable (name : Name) (s : Standing) : Type 0 where
  pub stable : IsStable s.disk
  pub attached : s.attached ≡ Some name

-- Nothing is unsynced, and the file of the attached store has its bytes.
pub record Rests (s : Standing) : Type 0 where
  pub stable : IsStable s.disk
  pub files : (name : Name) → s.attached ≡ Some name → file_bytes s name ≡ s.disk.bytes

-- What calls did to the stage: only these may have failed, `Beside` says what they left alone, and `Left` in which
-- state the store is after them.
pub record LeavesStage {S : Type 0} (g : Ghosts S) (calls : List StageCall) (failed : Option StageCall)
    (Beside Left : Standing → Standing → Type 0) (old new : S) : Type 0 where
  pub serves : FailsOnlyBy g calls failed old new
  pub beside : IfTelling g old new Beside
  pub left : IfTelling g old new Left
