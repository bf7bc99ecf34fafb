use Rattle.std.proofs.Common.{take}
use Rattle.std.specs.List.{list_any}
use Rattle.paw_check.specs.Calls.{is_call_of}
use Rattle.paw_check.specs.inner.Capped.{MarksTables, condacts_of_tables}
use Rattle.paw_check.proofs.sets.mark_called_from.Given as goal

abbrev pub invariant-loop-table : goal.invariant-loop-table
invariant-loop-table l =
    MarksTables l.fn.marks l.marks (λ u. list_any (is_call_of u) (condacts_of_tables l.tables (take l.table-index l.from)))
