use Rattle.std.proofs.Common.{◌≡◌, ◌-◌, length, take, drop, arith}
use Rattle.std.proofs.lemmas.List.{length-drop, take_all}
use Rattle.paw_stage.proofs.Appended.{Appends_more}
use Rattle.paw_stage.proofs.streams.write_whole.Goals as goal

pub loop-done-preserved : goal.loop-done-preserved
loop-done-preserved g c =
    let text = c.args.text.now in
    let done = c.loop-done.done in
    let rest : take (length text - done) (drop done text) ≡ drop done text =
    take_all (length text - done) (drop done text) (omega (arith, length-drop done text)) in
    record {
      within = omega (arith, c.in_ok-done.ensures.bound.1, length-drop done text, c.loop-done-test.true);
      written = Appends_more _ _ _ text _ done c.in_ok-done.field-0 rest c.loop-done.invariant.written c.in_ok-done.ensures.bytes;
    }
