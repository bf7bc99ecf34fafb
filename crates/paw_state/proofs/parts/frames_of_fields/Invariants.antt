use Rattle.std.proofs.Common.{◌≡◌, length, take, map}
use Rattle.paw_process.specs.declared.machine.TheConstants.{MOST_FRAMES}
use Rattle.paw_state.specs.inner.Parts.{frame_in}
use Rattle.paw_state.proofs.parts.frames_of_fields.Given as goal

-- There is room for eleven frames, of which the first are those of the rows.
abbrev pub invariant-loop-i : goal.invariant-loop-i
invariant-loop-i l = (length l.frames ≡ MOST_FRAMES) × (take l.i l.frames ≡ take l.i (map frame_in l.rows))
