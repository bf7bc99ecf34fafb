use Rattle.std.proofs.Common.{[]}
use Rattle.paw_gen.specs.Trial.{trial_object}
use Rattle.paw_gen.proofs.Rows.{pushed}
use Rattle.paw_gen.proofs.lists.objects.Goals as goal

pub loop-number-preserved : goal.loop-number-preserved
loop-number-preserved c =
    pushed (trial_object c.args.locations) [] c.loop-number.number c.loop-number.all.items c.push.new.self.items
    (record { text = c.in_ok-numbered_text.field-0; facts = c.object_facts.result })
    c.loop-number.invariant
    (cc (c.in_ok-numbered_text.ensures.value, c.object_facts.ensures.value)) c.in_ok-push.ensures.items
