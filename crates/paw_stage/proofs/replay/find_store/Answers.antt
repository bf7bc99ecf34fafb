use Rattle.std.proofs.Common.{◌≡◌, ◌+◌, length, take, subst, sym, arith}
use Rattle.std.proofs.lemmas.List.{length-map, length-take}
use Rattle.paw_stage.specs.inner.Log.{all_done, done_in}
use Rattle.paw_stage.specs.inner.Seen.{FindsStore}
use Rattle.paw_stage.proofs.Logs.{laid-at, done-next}
use Rattle.paw_stage.proofs.Stores.{found_named}
use Rattle.paw_stage.proofs.replay.find_store.Goals as goal

pub loop-k-preserved : goal.loop-k-preserved
loop-k-preserved c =
    let room = c.args.room.now in
    let calls = c.args.calls.now in
    let k = c.loop-k.k in
    let count : k + 1 ≡ length (all_done room (take k calls)) + 1 =
    omega (arith, c.loop-k-test.true, length-map (take k calls) (done_in room), length-take k calls) in
    subst (λ ds. FindsStore room ds c.store_after-store.result) (sym (done-next room calls k _ c.loop-k-test.true))
    (c.store_after-store.ensures.found (all_done room (take k calls)) count c.loop-k.invariant)

pub store_after-store-requires-clause-order : goal.store_after-store-requires-clause-order
store_after-store-requires-clause-order c =
    laid-at c.args.calls.now 0 (length c.args.room.now) c.loop-k.k _ c.requires.laid c.loop-k-test.true

pub store_after-store-requires-clause-named : goal.store_after-store-requires-clause-named
store_after-store-requires-clause-named c =
    found_named c.args.room.now (all_done c.args.room.now (take c.loop-k.k c.args.calls.now)) c.loop-k.store
    c.loop-k.invariant
