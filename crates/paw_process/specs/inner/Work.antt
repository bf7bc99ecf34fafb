-- What is left to do between two condacts that are read.
use Rattle.std.specs.Prelude.{◌≡◌, ℕ, suc, ◌+◌, ◌-◌, ◌*◌, ◌<◌, ◌≤◌, List, [], ◌∷◌, Option, Some, None}
use Rattle.paw_base.specs.declared.limits.TheConstants.{ENTRY_LIMIT}
use Rattle.paw_reading.specs.declared.frames.Frame.{Frame}
use Rattle.paw_reading.specs.declared.frames.OpenLoop.{OpenLoop}
use Rattle.paw_process.specs.inner.OpenTables.{OpenTables}

-- The entries that are left in each open table.
abbrev pub frames_work : List Frame → ℕ
frames_work [] = 0
frames_work (f ∷ fs) = (suc ENTRY_LIMIT - f.entry) + 1 + frames_work fs

-- The objects that are left in the open loop.
abbrev pub loop_work : Option OpenLoop → ℕ
loop_work None = 0
loop_work (Some l) = (256 - l.last) * 5000

-- What is left to do between two condacts that are read.
abbrev pub machine_work : OpenTables → ℕ
machine_work m = frames_work m.frames + loop_work m.turning

-- Condacts were counted, or less is left to do.
pub data Progress (old new : OpenTables) : Type 0 where
  counts : new.left < old.left → Progress old new
  falls : new.left ≡ old.left → machine_work new < machine_work old → Progress old new

-- Condacts were counted, or no more is left to do.
pub data IsNoFurther (old new : OpenTables) : Type 0 where
  counted : new.left < old.left → IsNoFurther old new
  stays : new.left ≡ old.left → machine_work new ≤ machine_work old → IsNoFurther old new
