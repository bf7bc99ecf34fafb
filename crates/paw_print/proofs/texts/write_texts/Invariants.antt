use Rattle.std.proofs.Common.{◌≡◌, ◌++◌, take}
use Rattle.paw_print.specs.Canonical.{texts_lines, with_line_ends}
use Rattle.paw_print.proofs.texts.write_texts.Given as goal

abbrev pub invariant-loop-number : goal.invariant-loop-number
invariant-loop-number l = l.out.items ≡ l.fn.out.items ++ with_line_ends (texts_lines l.header (take l.number l.texts))
