use Rattle.std.proofs.Common.{◌≡◌, take}
use Rattle.std.specs.Prelude.{sum_by}
use Rattle.paw_check.specs.inner.Capped.{in_32_bits, over_every}
use Rattle.paw_check.specs.inner.Own.{own_in}
use Rattle.paw_check.proofs.sums.every_own.Given as goal

abbrev pub invariant-loop-entry : goal.invariant-loop-entry
invariant-loop-entry l = l.sum ≡ in_32_bits (over_every l.changing (sum_by (own_in l.own)) (take l.entry-index l.entries))
