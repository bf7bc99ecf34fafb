use Rattle.std.proofs.Common.{take}
use Rattle.std.specs.Prelude.{count_by}
use Rattle.paw_check.specs.inner.Capped.{HoldsCapped, is_doall, over_verb}
use Rattle.paw_check.proofs.sums.verb_doalls.Given as goal

abbrev pub invariant-loop-entry : goal.invariant-loop-entry
invariant-loop-entry l = HoldsCapped l.counts (λ v. over_verb l.changing v (count_by is_doall) (take l.entry-index l.entries))
