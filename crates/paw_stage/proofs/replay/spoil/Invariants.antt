use Rattle.std.proofs.Common.{◌≡◌, ◌<◌, ℕ, take, length}
use Rattle.std.specs.Prelude.{slice_index}
use Rattle.paw_stage.specs.inner.Crash.{spoiled_if}
use Rattle.paw_stage.specs.inner.Log.{all_done}
use Rattle.paw_stage.specs.inner.Seen.{is_written}
use Rattle.paw_stage.proofs.replay.spoil.Given as goal

abbrev pub invariant-loop-call : goal.invariant-loop-call
invariant-loop-call l =
    (j : ℕ) → j < length l.initial.store →
    slice_index l.store j ≡ spoiled_if (is_written (all_done l.room (take l.call-index l.calls)) j)
    (slice_index l.initial.store j)
