use Rattle.std.proofs.Common.{refl, rules, cond}
use Rattle.std.specs.Prelude.{sum_by}
use Rattle.paw_check.specs.Costs.{with_call}
use Rattle.paw_check.specs.inner.Capped.{cell_at, is_for_every}
use Rattle.paw_check.specs.inner.Own.{own_in}
use Rattle.paw_check.proofs.Rows.{holds_none, verb_more}
use Rattle.paw_check.proofs.sums.verb_taken.Goals as goal

pub loop-entry-init : goal.loop-entry-init
loop-entry-init c = holds_none _ (λ v. refl)

pub loop-entry-preserved : goal.loop-entry-preserved
loop-entry-preserved c =
    verb_more c.args.changing (λ v. sum_by (with_call (own_in c.args.own.now) (λ u. cell_at c.args.called.now u v))) c.args.entries.now
    c.loop-entry.entry-index c.entry-item.result _ c.loop-entry-test.true (search rules)
    (c.add_at.ensures.value _ (λ v. cond (is_for_every c.args.changing c.entry-item.result) 0
    (sum_by (with_call (own_in c.args.own.now) (λ u. cell_at c.args.called.now u v)) c.entry-item.result.condacts))
    c.taken_for_verb-taken.ensures.value c.loop-entry.invariant)
