use Rattle.std.proofs.Common.{◌∙◌}
use Rattle.paw_world.proofs.DrawnOn.{words_on}
use Rattle.paw_world.proofs.draws.Draws.skip.Goals as goal

pub invariant_of-self : goal.invariant_of-self
invariant_of-self c = c.advance.ensures ∙ words_on c.self.inside.seed c.self.inside.count c.args.n c.self.inside.generator c.self.invariant
