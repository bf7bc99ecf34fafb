use Rattle.paw_check.specs.inner.Own.{own_in}
use Rattle.paw_check.proofs.Cells.{HoldBefore}
use Rattle.paw_check.proofs.costs.level.Given as goal

abbrev pub invariant-loop-number : goal.invariant-loop-number
invariant-loop-number l =
    HoldBefore l.objects (own_in l.own) l.changing l.tables l.called l.rows.items l.number
