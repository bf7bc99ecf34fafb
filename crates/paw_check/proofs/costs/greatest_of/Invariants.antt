use Rattle.std.proofs.Common.{◌≡◌, max, drop}
use Rattle.paw_check.specs.Measures.{greatest}
use Rattle.paw_check.proofs.costs.greatest_of.Given as goal

-- The most so far and that of the rest is that of all.
abbrev pub invariant-loop-taken : goal.invariant-loop-taken
invariant-loop-taken l = max l.most (greatest (drop l.taken-index l.row)) ≡ greatest l.row
