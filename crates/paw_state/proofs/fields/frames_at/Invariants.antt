use Rattle.std.proofs.Common.{◌≡◌, length, take}
use Rattle.paw_process.specs.declared.machine.TheConstants.{MOST_FRAMES}
use Rattle.paw_state.specs.declared.fields.TheConstants.{FRAMES}
use Rattle.paw_state.specs.inner.Shapes.{values_at}
use Rattle.paw_state.specs.inner.Fields.{frame_shape}
use Rattle.paw_state.proofs.fields.frames_at.Given as goal

-- There is room for eleven frames, of which the first are read.
abbrev pub invariant-loop-i : goal.invariant-loop-i
invariant-loop-i l = (length l.rows ≡ MOST_FRAMES) × (take l.i l.rows ≡ values_at frame_shape l.i l.bytes FRAMES)
