use Rattle.std.proofs.Common.{◌≡◌, take}
use Rattle.std.specs.Prelude.{count_by}
use Rattle.paw_check.specs.inner.Capped.{in_32_bits, is_doall, over_every}
use Rattle.paw_check.proofs.sums.every_doalls.Given as goal

abbrev pub invariant-loop-entry : goal.invariant-loop-entry
invariant-loop-entry l = l.count ≡ in_32_bits (over_every l.changing (count_by is_doall) (take l.entry-index l.entries))
