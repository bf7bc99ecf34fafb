use Rattle.std.proofs.Common.{◌+◌, ◌≤◌, length, take, drop, subst, sym, ap, ◌∙◌}
use Rattle.paw_stage.specs.Stage.{bytes_or_none}
use Rattle.paw_stage.specs.inner.Done.{fresh, after}
use Rattle.paw_stage.specs.inner.Log.{all_done}
use Rattle.paw_stage.proofs.Leaves.{store_file}
use Rattle.paw_stage.proofs.replay.read_store.Goals as goal

pub read_file-requires-clause-within : goal.read_file-requires-clause-within
read_file-requires-clause-within c =
    let ds = all_done c.args.room.now c.args.calls.now in
    let file =
    ap (λ n. bytes_or_none ((after fresh ds).files n)) c.name_of.ensures.value
    ∙ store_file c.args.room.now ds c.in-Some.store c.in-Some.ensures.found in
    subst (λ l. c.args.at + length c.args.into.now ≤ length l) (sym file) c.requires.within

pub returns-in-Some : goal.returns-in-Some
returns-in-Some c = record {
  read =
      let ds = all_done c.args.room.now c.args.calls.now in
      let file =
      ap (λ n. bytes_or_none ((after fresh ds).files n)) c.name_of.ensures.value
      ∙ store_file c.args.room.now ds c.in-Some.store c.in-Some.ensures.found in
      c.read_file.ensures.read ∙ ap (λ l. take (length c.args.into.now) (drop c.args.at l)) file;
}
