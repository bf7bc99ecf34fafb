use Rattle.std.proofs.Common.{◌≡◌, ◌++◌, drop}
use Rattle.paw_author.proofs.hooks.copy_of_line.Given as goal

abbrev pub invariant-loop-part : goal.invariant-loop-part
invariant-loop-part l = l.parts.items ++ drop l.part-index l.line ≡ l.line
