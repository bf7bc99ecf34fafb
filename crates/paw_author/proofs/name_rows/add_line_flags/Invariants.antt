use Rattle.std.proofs.Common.{◌≡◌, ◌++◌, length}
use Rattle.paw_author.specs.NameRows.{flags_in_line}
use Rattle.paw_author.proofs.name_rows.add_line_flags.Given as goal

abbrev pub invariant-loop-part : goal.invariant-loop-part
invariant-loop-part l =
    l.flags.items ++ flags_in_line l.to_come.items l.left ≡ l.initial.flags.items ++ flags_in_line l.fn.kinds.items l.line

abbrev pub decreases-loop-part : goal.decreases-loop-part
decreases-loop-part l = length l.left
