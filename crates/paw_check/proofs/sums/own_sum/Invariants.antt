use Rattle.std.proofs.Common.{◌≡◌, take}
use Rattle.std.specs.Prelude.{sum_by}
use Rattle.paw_check.specs.inner.Capped.{in_32_bits}
use Rattle.paw_check.specs.inner.Own.{own_in}
use Rattle.paw_check.proofs.sums.own_sum.Given as goal

abbrev pub invariant-loop-condact : goal.invariant-loop-condact
invariant-loop-condact l = l.sum ≡ in_32_bits (sum_by (own_in l.own) (take l.condact-index l.condacts))
