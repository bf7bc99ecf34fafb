use Rattle.std.proofs.Common.{◌≡◌, ◌++◌, take}
use Rattle.paw_print.specs.Canonical.{numbered_lines, table_lines, with_line_ends}
use Rattle.paw_print.proofs.entries.write_tables.Given as goal

abbrev pub invariant-loop-number : goal.invariant-loop-number
invariant-loop-number l = l.out.items ≡ l.fn.out.items ++ with_line_ends (numbered_lines (table_lines l.vocabulary) 0 (take l.number l.tables))
