use Rattle.std.proofs.Common.{take}
use Rattle.std.specs.List.{list_any}
use Rattle.paw_check.specs.Calls.{is_call_of}
use Rattle.paw_check.specs.inner.Capped.{MarksTables, condacts_of_entries}
use Rattle.paw_check.proofs.sets.mark_called_in.Given as goal

abbrev pub invariant-loop-entry : goal.invariant-loop-entry
invariant-loop-entry l =
    MarksTables l.fn.marks l.marks (λ u. list_any (is_call_of u) (condacts_of_entries (take l.entry-index l.entries)))
