use Rattle.std.proofs.Common.{◌≡◌, ◌-◌, length, take, drop, ap, ◌∙◌, arith}
use Rattle.std.proofs.lemmas.List.{length-drop, take_all}
use Rattle.paw_stage.specs.Disk.{put_at}
use Rattle.paw_stage.proofs.Writes.{lays}
use Rattle.paw_stage.proofs.replay.lay_over.Goals as goal

pub returns : goal.returns
returns c = record {
  laid = λ j low.
      let from = c.min-from.result in
      let to = c.min-to.result in
      let bytes = c.args.bytes.now in
      let into = c.args.into.now in
      let all : take (length bytes - from) (drop from bytes) ≡ drop from bytes =
      take_all (length bytes - from) (drop from bytes) (omega (arith, length-drop from bytes)) in
      lays c.args.offset c.args.at from to bytes into c.copy_over.new.into j (omega arith) (omega arith)
      (c.copy_over.ensures.laid ∙ ap (λ b. put_at to (take (length into - to) b) into) all) low;
}
