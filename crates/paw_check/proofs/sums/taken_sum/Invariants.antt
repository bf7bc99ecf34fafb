use Rattle.std.proofs.Common.{◌≡◌, take}
use Rattle.std.specs.Prelude.{sum_by}
use Rattle.paw_check.specs.Costs.{with_call}
use Rattle.paw_check.specs.inner.Capped.{in_32_bits, cell_at}
use Rattle.paw_check.specs.inner.Own.{own_in}
use Rattle.paw_check.proofs.sums.taken_sum.Given as goal

abbrev pub invariant-loop-condact : goal.invariant-loop-condact
invariant-loop-condact l =
    l.sum ≡ in_32_bits (sum_by (with_call (own_in l.own) (λ u. cell_at l.called u l.verb)) (take l.condact-index l.condacts))
