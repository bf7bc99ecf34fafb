use Rattle.std.proofs.Common.{◌≡◌, length, take, subst, sym, ap, ◌∙◌}
use Rattle.std.specs.Prelude.{IfOk}
use Rattle.paw_stage.specs.Stage.{bytes_or_none}
use Rattle.paw_stage.specs.inner.Done.{fresh, after}
use Rattle.paw_stage.specs.inner.Log.{all_done}
use Rattle.paw_stage.proofs.Logs.{laid-take}
use Rattle.paw_stage.proofs.Leaves.{store_file, synced_file, crashed_synced, crashed_read}
use Rattle.paw_stage.proofs.replay.leave.Goals as goal

pub whole_file-requires : goal.whole_file-requires
whole_file-requires c = record {
  laid = laid-take c.args.calls.now c.args.store.synced 0 (length c.args.room.now) c.requires.laid;
}

pub returns-then-pick-eq0 : goal.returns-then-pick-eq0
returns-then-pick-eq0 c = record {
  value =
      let room = c.args.room.now in
      let calls = c.args.calls.now in
      let file = ap (λ n. bytes_or_none ((after fresh (all_done room (take c.args.store.synced calls))).files n))
      c.name_of-name.ensures.value ∙ synced_file room calls c.args.store c.requires.found in
      subst (λ l. IfOk c.whole_file.result (λ v. v.items ≡ l))
      (file ∙ sym (crashed_synced (after fresh (all_done room calls)).disk c.args.pick c.if-pick-eq0.true))
      c.whole_file.ensures.value;
}

pub returns-then-pick-eq1 : goal.returns-then-pick-eq1
returns-then-pick-eq1 c = record {
  value =
      let room = c.args.room.now in
      let calls = c.args.calls.now in
      let file = ap (λ n. bytes_or_none ((after fresh (all_done room calls)).files n)) c.name_of-name.ensures.value
      ∙ store_file room (all_done room calls) c.args.store c.requires.found in
      subst (λ l. IfOk c.whole_file-then-pick-eq1.result (λ v. v.items ≡ l))
      (file ∙ sym (crashed_read (after fresh (all_done room calls)).disk c.args.pick c.if-pick-eq1.true))
      c.whole_file-then-pick-eq1.ensures.value;
}
