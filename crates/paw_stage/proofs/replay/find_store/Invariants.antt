use Rattle.std.proofs.Common.{take}
use Rattle.paw_stage.specs.inner.Log.{all_done}
use Rattle.paw_stage.specs.inner.Seen.{FindsStore}
use Rattle.paw_stage.proofs.replay.find_store.Given as goal

abbrev pub invariant-loop-k : goal.invariant-loop-k
invariant-loop-k l = FindsStore l.room (all_done l.room (take l.k l.calls)) l.store
