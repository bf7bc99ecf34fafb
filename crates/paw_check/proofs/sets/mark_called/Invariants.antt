use Rattle.std.proofs.Common.{take}
use Rattle.std.specs.List.{list_any}
use Rattle.paw_check.specs.Calls.{is_call_of}
use Rattle.paw_check.specs.inner.Capped.{MarksTables}
use Rattle.paw_check.proofs.sets.mark_called.Given as goal

abbrev pub invariant-loop-condact : goal.invariant-loop-condact
invariant-loop-condact l = MarksTables l.fn.marks l.marks (λ u. list_any (is_call_of u) (take l.condact-index l.condacts))
