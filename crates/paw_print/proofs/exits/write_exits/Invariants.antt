use Rattle.std.proofs.Common.{◌≡◌, ◌++◌, take}
use Rattle.paw_print.specs.Canonical.{exits_lines, with_line_ends}
use Rattle.paw_print.proofs.exits.write_exits.Given as goal

abbrev pub invariant-loop-number : goal.invariant-loop-number
invariant-loop-number l = l.out.items ≡ l.fn.out.items ++ with_line_ends (exits_lines l.vocabulary (take l.number l.exits))
