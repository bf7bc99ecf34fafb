use Rattle.std.proofs.Common.{take, drop, length}
use Rattle.paw_stage.specs.inner.Done.{fresh, after}
use Rattle.paw_stage.specs.inner.Log.{all_done, AreLaid}
use Rattle.paw_stage.specs.inner.Seen.{Sees}
use Rattle.paw_stage.proofs.replay.see.Given as goal

abbrev pub invariant-loop-call : goal.invariant-loop-call
invariant-loop-call l = record {
  sees : Sees (after fresh (all_done l.room (take l.call-index l.calls))) l.name l.at l.seen l.into;
  rest : AreLaid (drop l.call-index l.calls) l.seen.len (length l.room);
}
