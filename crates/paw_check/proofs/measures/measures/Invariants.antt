use Rattle.paw_check.specs.inner.Own.{measure_at}
use Rattle.paw_check.proofs.Rows.{HoldsUpTo}
use Rattle.paw_check.proofs.measures.measures.Given as goal

abbrev pub invariant-loop-at : goal.invariant-loop-at
invariant-loop-at l = HoldsUpTo l.row (measure_at l.name l.texts) l.at
