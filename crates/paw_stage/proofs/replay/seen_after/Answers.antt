use Rattle.std.proofs.Common.{sym, subst}
use Rattle.std.specs.Prelude.{slice_range}
use Rattle.paw_stage.specs.inner.Done.{after_call_of}
use Rattle.paw_stage.specs.inner.Seen.{Sees}
use Rattle.paw_stage.proofs.Sees.{sees_written}
use Rattle.paw_stage.proofs.replay.seen_after.Goals as goal

pub returns-then-seen-clause-sees : goal.returns-then-seen-clause-sees
returns-then-seen-clause-sees c s filed h =
    let room = c.args.room.now in
    let call = c.args.call in
    let bytes = slice_range room call.mid call.to in
    let is = rw c.slice_of-bytes.ensures.value at c.seen_written.ensures.seen in
    let laid = rw c.slice_of-bytes.ensures.value at c.seen_written.ensures.laid in
    subst (λ k. Sees (after_call_of k (slice_range room call.from call.mid) bytes s) c.args.name.now c.args.at
    c.seen_written.result c.seen_written.new.into) (sym c.in-Write.is)
    (sees_written s c.args.name.now c.args.at c.in-Write.offset bytes c.args.into.now c.seen_written.new.into c.args.seen
    c.seen_written.result filed h c.if-seen.true is c.seen_written.auto.into laid)
