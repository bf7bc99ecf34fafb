use Rattle.std.proofs.Common.{arith, length, ap, ◌≡◌}
use Rattle.paw_world.specs.World.{World}
use Rattle.paw_world.proofs.Listed.{slice_get_is}
use Rattle.paw_world.proofs.world.World.facts.Goals as goal

pub returns : goal.returns
returns c =
    let same : length c.self.inside.places ≡ length c.args.self.now.places = ap (λ (w : World). length w.places) c.self.view_is in
    record {
      value = slice_get_is (length c.self.inside.places) c.args.o c.self.inside.facts c.args.self.now.facts _ (ap (λ (w : World). w.facts) c.self.view_is)
          (omega (arith, c.self.invariant.objects, c.self.invariant.facts_room)) (omega arith);
    }
