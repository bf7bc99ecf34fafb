use Rattle.std.proofs.Common.{length}
use Rattle.paw_journal.proofs.Applies.{Applies}
use Rattle.paw_journal.proofs.changes.apply.Given as goal

abbrev pub invariant-loop-rest : goal.invariant-loop-rest
invariant-loop-rest l = Applies l.records l.initial.state l.number l.rest l.state

abbrev pub decreases-loop-rest : goal.decreases-loop-rest
decreases-loop-rest l = length l.rest
