use Rattle.std.proofs.Common.{◌≡◌, take, map}
use Rattle.paw_effects.proofs.opening.take_facts.Given as goal

abbrev pub invariant-loop-o : goal.invariant-loop-o
invariant-loop-o g l = take l.o l.facts ≡ take l.o (map (λ o. o.facts) (g.T.Tables.game l.tables).objects)
