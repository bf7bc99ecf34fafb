use Rattle.std.proofs.Common.{arith, sym}
use Rattle.paw_world.proofs.Listed.{count_is}
use Rattle.paw_world.proofs.places.Places.count.Goals as goal

pub returns : goal.returns
returns c = record {
  value = sym (count_is c.self.inside.count c.self.inside.places c.args.self.now c.self.view_is
      (omega (arith, c.self.invariant.few, c.self.invariant.room)));
}
