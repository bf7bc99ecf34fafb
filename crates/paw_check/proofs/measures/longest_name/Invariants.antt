use Rattle.std.proofs.Common.{◌≡◌, length, map, max, drop}
use Rattle.paw_check.specs.Measures.{greatest}
use Rattle.paw_check.specs.inner.Capped.{in_32_bits}
use Rattle.paw_check.proofs.measures.longest_name.Given as goal

-- The most so far and that of the rest is that of all.
abbrev pub invariant-loop-object : goal.invariant-loop-object
invariant-loop-object l =
    max l.most (in_32_bits (greatest (map (λ o. length o.text) (drop l.object-index l.objects))))
    ≡ in_32_bits (greatest (map (λ o. length o.text) l.objects))
