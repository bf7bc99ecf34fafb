use Rattle.std.proofs.Common.{◌≡◌, map, max, drop}
use Rattle.paw_check.specs.Measures.{greatest}
use Rattle.paw_check.specs.inner.Capped.{in_32_bits}
use Rattle.paw_check.specs.inner.Own.{measure_in}
use Rattle.paw_check.proofs.measures.greatest_measure.Given as goal

-- The most so far and that of the rest is that of all.
abbrev pub invariant-loop-at : goal.invariant-loop-at
invariant-loop-at l =
    max l.most (in_32_bits (greatest (map (measure_in l.name) (drop l.at l.texts))))
    ≡ in_32_bits (greatest (map (measure_in l.name) l.texts))
