use Rattle.std.proofs.Common.{◌≡◌, ◌-◌, ◌++◌, length, take, drop, ap, ◌∙◌, arith}
use Rattle.std.proofs.Math.Seq.{take-append_seam}
use Rattle.std.proofs.lemmas.List.{take_all, length-drop}
use Rattle.paw_stage.specs.Stage.{bytes_or_none}
use Rattle.paw_stage.specs.inner.Done.{fresh, after}
use Rattle.paw_stage.specs.inner.Log.{all_done}
use Rattle.paw_stage.proofs.Logs.{laid-drop}
use Rattle.paw_stage.proofs.Leaves.{store_file, spoiled_file}
use Rattle.paw_stage.proofs.replay.spoiled_store.Goals as goal

pub spoil-requires : goal.spoil-requires
spoil-requires c = record {
  laid =
      let calls = c.args.calls.now in
      let n = c.args.store.synced in
      let all : take (length calls - n) (drop n calls) ≡ drop n calls = take_all (length calls - n) (drop n calls) (omega (arith, length-drop n calls)) in
      rw all (laid-drop calls n 0 (length c.args.room.now) c.requires.laid);
}

pub returns : goal.returns
returns c = record {
  value =
      let room = c.args.room.now in
      let calls = c.args.calls.now in
      let new = c.spoil.new.store in
      let file = ap (λ n. bytes_or_none ((after fresh (all_done room calls)).files n)) c.name_of.ensures.value
      ∙ store_file room (all_done room calls) c.args.store c.requires.found in
      let spoilt = spoiled_file room calls c.args.store c.as_mut_slice.result.now new c.requires.found
      (c.as_mut_slice.ensures.value ∙ (c.in_ok-bytes.ensures.value ∙ file)) c.spoil.auto.store c.spoil.ensures.spoiled in
      let n : c.in_ok-bytes.bytes.len ≡ length new = omega (arith, c.spoil.auto.store, c.as_mut_slice.ensures.len) in
      ap (λ k. take k (new ++ drop (length new) c.in_ok-bytes.bytes.items)) n ∙ (take-append_seam new (drop (length new) c.in_ok-bytes.bytes.items) ∙ spoilt);
}
