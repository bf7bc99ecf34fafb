use Rattle.std.proofs.Common.{◌≡◌, length, take, slice_index, subst, sym, arith}
use Rattle.paw_stage.specs.inner.Crash.{spoiled_if}
use Rattle.paw_stage.specs.inner.Log.{all_done}
use Rattle.paw_stage.specs.inner.Seen.{is_written}
use Rattle.paw_stage.proofs.Logs.{laid-at, done-next}
use Rattle.paw_stage.proofs.Leaves.{spoiled_more}
use Rattle.paw_stage.proofs.replay.spoil.Goals as goal

pub spoil_after-requires : goal.spoil_after-requires
spoil_after-requires c = record {
  order =
      laid-at c.args.calls.now 0 (length c.args.room.now) c.loop-call.call-index _ c.requires.laid c.loop-call-test.true;
}

pub loop-call-preserved : goal.loop-call-preserved
loop-call-preserved c j low =
    let index2 = slice_index c.args.store.now j in
    let room = c.args.room.now in
    let calls = c.args.calls.now in
    let k = c.loop-call.call-index in
    subst (λ ds. slice_index c.spoil_after.new.store j ≡ spoiled_if (is_written ds j) index2) (sym (done-next room calls k _ c.loop-call-test.true))
    (spoiled_more (all_done room (take k calls)) _ j index2 (slice_index c.loop-call.store j)
    (slice_index c.spoil_after.new.store j) (c.spoil_after.ensures.spoiled j (omega (arith, low, c.loop-call.auto.store)))
    (c.loop-call.invariant j low))
