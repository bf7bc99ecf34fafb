use Rattle.std.proofs.Common.{◌≡◌, ◌++◌, drop}
use Rattle.paw_author.proofs.hooks.add_lines.Given as goal

abbrev pub invariant-loop-line : goal.invariant-loop-line
invariant-loop-line l = l.out.items ++ drop l.line-index l.lines ≡ l.initial.out.items ++ l.lines
