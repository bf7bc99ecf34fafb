use Rattle.std.proofs.Common.{◌≡◌, length, take}
use Rattle.std.specs.Prelude.{sum_by}
use Rattle.paw_check.specs.inner.Capped.{in_32_bits}
use Rattle.paw_check.proofs.measures.all_names.Given as goal

abbrev pub invariant-loop-object : goal.invariant-loop-object
invariant-loop-object l = l.sum ≡ in_32_bits (sum_by (λ o. length o.text) (take l.object-index l.objects))
