use Rattle.std.proofs.Common.{arith}
use Rattle.paw_world.proofs.Listed.{count_is}
use Rattle.paw_world.proofs.Sets.{added_at}
use Rattle.paw_world.proofs.places.Places.add.Goals as goal

pub invariant_of-self : goal.invariant_of-self
invariant_of-self c =
    added_at c.self.inside.sets c.self.inside.count c.self.inside.places c.args.p c.index-self-p.result c.insert.new.self c.self.invariant (omega arith)
    (omega (
      arith,
      count_is c.self.inside.count c.self.inside.places c.args.self.now c.self.view_is
          (omega (arith, c.self.invariant.few, c.self.invariant.room)),
    ))
    c.insert.ensures.inserts
