use Rattle.std.proofs.Common.{[]}
use Rattle.paw_gen.specs.Trial.{ring_exits}
use Rattle.paw_gen.proofs.Rows.{pushed}
use Rattle.paw_gen.proofs.lists.exits.Goals as goal

pub loop-number-preserved : goal.loop-number-preserved
loop-number-preserved c =
    pushed (ring_exits c.args.locations) [] c.loop-number.number c.loop-number.all.items c.push.new.self.items c.in_ok-ring_exits.field-0
    c.loop-number.invariant c.in_ok-ring_exits.ensures.value c.in_ok-push.ensures.items
