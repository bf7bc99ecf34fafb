use Rattle.paw_check.specs.inner.Found.{found_taken}
use Rattle.paw_check.proofs.Rows.{HoldsUpTo}
use Rattle.paw_check.proofs.sums.TableSums.row.Given as goal

abbrev pub invariant-loop-verb : goal.invariant-loop-verb
invariant-loop-verb l = HoldsUpTo l.row (found_taken l.objects l.self l.called) l.verb
