use Rattle.std.proofs.Common.{◌≡◌, ◌≤◌, ◌∙◌, Some, length, refl, sym, ap, subst, arith}
use Rattle.std.specs.Option.{option_map}
use Rattle.std.specs.List.{slice_get}
use Rattle.std.proofs.lemmas.Option.{slice_get-map, slice_get_read}
use Rattle.paw_stage.specs.declared.log.Call.{Call}
use Rattle.paw_stage.specs.inner.Done.{DoneCall}
use Rattle.paw_stage.specs.inner.Log.{all_done, done_in}
use Rattle.paw_stage.proofs.Logs.{laid-at}
use Rattle.paw_stage.proofs.replay.call_at.Goals as goal

pub slice_of-requires-clause-order : goal.slice_of-requires-clause-order
slice_of-requires-clause-order c =
    let call = c.in_ok-call.call.now in
    let got = c.in_ok-call.ensures.lookup in
    let laid = laid-at c.args.calls.now 0 (length c.args.room.now) c.args.number call c.requires.laid got.3.0 in
    subst (λ (x : Call). x.from ≤ x.mid) (sym got.1) laid.0

pub slice_of-requires-clause-within : goal.slice_of-requires-clause-within
slice_of-requires-clause-within c =
    let call = c.in_ok-call.call.now in
    let got = c.in_ok-call.ensures.lookup in
    let laid = laid-at c.args.calls.now 0 (length c.args.room.now) c.args.number call c.requires.laid got.3.0 in
    subst (λ (x : Call). x.mid ≤ length c.args.room.now) (sym got.1) (omega (arith, laid.1, laid.2))

pub returns : goal.returns
returns c = record {
  value =
      let room = c.args.room.now in
      let calls = c.args.calls.now in
      let call = c.in_ok-call.call.now in
      let got = c.in_ok-call.ensures.lookup in
      let there : slice_get calls c.args.number ≡ Some call =
      slice_get_read calls (length calls) c.args.number call refl got.3.0 got.1 in
      let done : slice_get (all_done room calls) c.args.number ≡ Some (done_in room call) =
      slice_get-map (done_in room) calls c.args.number ∙ ap (option_map (done_in room)) there in
      ap (λ name. Some (call.kind, name)) c.slice_of.ensures.value
      ∙ sym (ap (λ o. option_map (λ (d : DoneCall). (d.kind, d.name)) o) done);
}
