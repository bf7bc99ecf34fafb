use Rattle.std.proofs.Common.{ap, ◌∙◌}
use Rattle.paw_world.specs.Draws.{random_word}
use Rattle.paw_world.specs.inner.Draws.{Drawn}
use Rattle.paw_world.proofs.DrawnOn.{word_on, word_is}
use Rattle.paw_world.proofs.draws.Draws.draw.Goals as goal

pub invariant_of-self : goal.invariant_of-self
invariant_of-self c = ap (λ w. w.1) c.next_word.ensures ∙ word_on c.self.inside.seed c.self.inside.count c.self.inside.generator c.self.invariant

pub returns-clause-word : goal.returns-clause-word
returns-clause-word c =
    ap (λ w. w.0) c.next_word.ensures ∙ (word_is c.self.inside.seed c.self.inside.count c.self.inside.generator c.self.invariant
    ∙ ap (λ (d : Drawn). random_word d.seed d.count) c.self.view_is)
