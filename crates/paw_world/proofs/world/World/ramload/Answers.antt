use Rattle.std.proofs.Common.{arith, ap, ◌∙◌, take, ◌+◌}
use Rattle.paw_world.specs.World.{World, saved_position_loaded}
use Rattle.paw_world.proofs.Loaded.{parts_loaded, loaded_is}
use Rattle.paw_world.proofs.world.World.ramload.Goals as goal

pub returns : goal.returns
returns c =
    record {
      change = loaded_is c.self.inside.facts c.self.inside.locations c.self.inside.flags c.self.inside.places c.self.inside.saved
          c.self.inside.kept c.self.inside.draws.seed
          c.self.inside.draws.count c.in-Some.saved c.args.n _ _ c.self.invariant.saved_alike c.in-Some.is
          (c.copy_from_slice.ensures.after ∙ ap (take (c.args.n + 1)) c.flags.ensures.value)
          (c.at-self-inside.ensures.value ∙ c.places.ensures.value)
          ∙ ap (λ (w : World). saved_position_loaded w c.args.n) c.self.view_is;
    }

pub invariant_of-self : goal.invariant_of-self
invariant_of-self c =
    parts_loaded c.self.inside.facts c.self.inside.flags c.self.inside.places c.self.inside.saved c.self.inside.kept c.in-Some.saved
    c.args.n _ _ c.self.invariant c.in-Some.is
    (omega arith) (c.copy_from_slice.ensures.after ∙ ap (take (c.args.n + 1)) c.flags.ensures.value)
    (c.at-self-inside.ensures.value ∙ c.places.ensures.value)
