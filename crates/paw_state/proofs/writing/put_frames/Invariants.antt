use Rattle.std.proofs.Common.{◌≡◌, ◌+◌, ◌*◌, ◌++◌, length, take}
use Rattle.std.specs.Prelude.{flat_map}
use Rattle.paw_state.specs.declared.fields.TheConstants.{FRAME_LENGTH}
use Rattle.paw_state.specs.inner.State.{frame_bytes}
use Rattle.paw_state.proofs.writing.put_frames.Given as goal

-- The rows so far are written.
abbrev pub invariant-loop-row : goal.invariant-loop-row
invariant-loop-row l = record {
  written : l.writer ≡ l.initial.writer ++ flat_map frame_bytes (take l.row-index l.rows);
  long : length l.writer ≡ length l.initial.writer + FRAME_LENGTH * l.row-index;
}
