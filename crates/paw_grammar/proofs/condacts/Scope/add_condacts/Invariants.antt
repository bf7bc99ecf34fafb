use Rattle.std.proofs.Common.{◌≡◌, length}
use Rattle.paw_grammar.specs.Condacts.{condacts_in, with_more_condacts}
use Rattle.paw_grammar.proofs.condacts.Scope.add_condacts.Given as goal

abbrev pub invariant-loop-name : goal.invariant-loop-name
invariant-loop-name l = with_more_condacts l.rows.items (condacts_in l.self.bounds l.self.words 0 l.tokens)
    ≡ with_more_condacts l.fn.rows.items (condacts_in l.self.bounds l.self.words 0 l.fn.tokens)

abbrev pub decreases-loop-name : goal.decreases-loop-name
decreases-loop-name l = length l.tokens
