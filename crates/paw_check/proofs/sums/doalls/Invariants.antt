use Rattle.std.proofs.Common.{◌≡◌, take}
use Rattle.std.specs.Prelude.{count_by}
use Rattle.paw_check.specs.inner.Capped.{in_32_bits, is_doall}
use Rattle.paw_check.proofs.sums.doalls.Given as goal

abbrev pub invariant-loop-condact : goal.invariant-loop-condact
invariant-loop-condact l = l.count ≡ in_32_bits (count_by is_doall (take l.condact-index l.condacts))
