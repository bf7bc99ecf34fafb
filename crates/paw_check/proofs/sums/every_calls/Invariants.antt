use Rattle.std.proofs.Common.{take}
use Rattle.std.specs.Prelude.{count_by}
use Rattle.paw_check.specs.Calls.{is_call_of}
use Rattle.paw_check.specs.inner.Capped.{HoldsCapped, over_every}
use Rattle.paw_check.proofs.sums.every_calls.Given as goal

abbrev pub invariant-loop-entry : goal.invariant-loop-entry
invariant-loop-entry l = HoldsCapped l.counts (λ u. over_every l.changing (count_by (is_call_of u)) (take l.entry-index l.entries))
