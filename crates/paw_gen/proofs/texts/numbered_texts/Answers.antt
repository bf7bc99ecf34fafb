use Rattle.std.proofs.Common.{[]}
use Rattle.paw_gen.specs.Trial.{number_between}
use Rattle.paw_gen.proofs.Rows.{pushed}
use Rattle.paw_gen.proofs.texts.numbered_texts.Goals as goal

pub loop-number-preserved : goal.loop-number-preserved
loop-number-preserved c =
    pushed (number_between c.args.before.now c.args.after.now) []
    c.loop-number.number c.loop-number.texts.items c.push.new.self.items c.in_ok-numbered_text.field-0
    c.loop-number.invariant c.in_ok-numbered_text.ensures.value c.in_ok-push.ensures.items
