use Rattle.std.proofs.Common.{take}
use Rattle.std.specs.Prelude.{sum_by}
use Rattle.paw_check.specs.Costs.{with_call}
use Rattle.paw_check.specs.inner.Capped.{HoldsCapped, cell_at, over_verb}
use Rattle.paw_check.specs.inner.Own.{own_in}
use Rattle.paw_check.proofs.sums.verb_taken.Given as goal

abbrev pub invariant-loop-entry : goal.invariant-loop-entry
invariant-loop-entry l = HoldsCapped l.sums (λ v. over_verb l.changing v
    (sum_by (with_call (own_in l.own) (λ u. cell_at l.called u v))) (take l.entry-index l.entries))
