use Rattle.std.proofs.Common.{length, ap, ◌∙◌}
use Rattle.paw_stage.specs.Stage.{bytes_or_none}
use Rattle.paw_stage.specs.inner.Done.{fresh, after}
use Rattle.paw_stage.specs.inner.Log.{all_done}
use Rattle.paw_stage.proofs.Leaves.{store_file}
use Rattle.paw_stage.proofs.replay.store_len.Goals as goal

pub returns-in-Some : goal.returns-in-Some
returns-in-Some c = record {
  value =
      let ds = all_done c.args.room.now c.args.calls.now in
      let file =
      ap (λ n. bytes_or_none ((after fresh ds).files n)) c.name_of.ensures.value
      ∙ store_file c.args.room.now ds c.in-Some.store c.in-Some.ensures.found in
      c.see.ensures.sees.len ∙ ap length file;
}
