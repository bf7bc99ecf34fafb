use Rattle.std.proofs.Common.{◌+◌, length, take, drop, subst, sym, ap, ◌∙◌}
use Rattle.paw_stage.specs.inner.Done.{fresh, after}
use Rattle.paw_stage.specs.inner.Log.{all_done}
use Rattle.paw_stage.specs.inner.Seen.{Sees}
use Rattle.paw_stage.proofs.Logs.{laid-at, laid-next, laid-from, done-next, after-push}
use Rattle.paw_stage.specs.inner.Filed.{after_filed}
use Rattle.paw_stage.proofs.replay.see.Goals as goal

pub loop-call-preserved : goal.loop-call-preserved
loop-call-preserved c =
    let room = c.args.room.now in
    let calls = c.args.calls.now in
    let k = c.loop-call.call-index in
    let ds = all_done room (take k calls) in
    let next = laid-next calls k c.loop-call.seen.len (length room) _ c.loop-call-test.true c.loop-call.invariant.rest in
    record {
      sees = subst (λ s. Sees s c.args.name.now c.args.at c.seen_after-seen.result c.seen_after-seen.new.into)
          (sym (ap (after fresh) (done-next room calls k _ c.loop-call-test.true) ∙ after-push fresh ds _))
          (c.seen_after-seen.ensures.sees (after fresh ds) (after_filed ds) c.loop-call.invariant.sees);
      rest = laid-from (drop (k + 1) calls) _ c.seen_after-seen.result.len (length room) c.seen_after-seen.ensures.small next.3;
    }

pub seen_after-seen-requires-clause-order : goal.seen_after-seen-requires-clause-order
seen_after-seen-requires-clause-order c =
    laid-at c.args.calls.now 0 (length c.args.room.now) c.loop-call.call-index _ c.requires.laid c.loop-call-test.true

pub seen_after-seen-requires-clause-small : goal.seen_after-seen-requires-clause-small
seen_after-seen-requires-clause-small c =
    (laid-next c.args.calls.now c.loop-call.call-index c.loop-call.seen.len (length c.args.room.now) _
    c.loop-call-test.true c.loop-call.invariant.rest).0
