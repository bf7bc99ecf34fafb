use Rattle.std.proofs.Common.{arith, length, subst, refl}
use Rattle.paw_world.specs.World.{World, IsWorld}
use Rattle.paw_world.proofs.Listed.{count_is}
use Rattle.paw_world.proofs.world.World.objects.Goals as goal

pub returns-clause-sound : goal.returns-clause-sound
returns-clause-sound c =
    let Sound : World → Type 0 = λ w. IsWorld w in
    subst Sound c.self.view_is (record {
      objects = c.self.invariant.objects;
      facts = count_is (length c.self.inside.places) c.self.inside.facts _ refl (omega (arith, c.self.invariant.objects, c.self.invariant.facts_room));
      flags = c.self.invariant.flags_all;
      saved = c.self.invariant.saved_alike;
      kept = c.self.invariant.kept_alike;
    })
