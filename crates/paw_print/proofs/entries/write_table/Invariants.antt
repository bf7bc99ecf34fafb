use Rattle.std.proofs.Common.{◌≡◌, ◌++◌, take}
use Rattle.paw_print.specs.Canonical.{table_lines, with_line_ends}
use Rattle.paw_print.proofs.entries.write_table.Given as goal

abbrev pub invariant-loop-entry : goal.invariant-loop-entry
invariant-loop-entry l = l.out.items ≡ l.fn.out.items ++ with_line_ends (table_lines l.vocabulary l.number (take l.entry-index l.entries))
