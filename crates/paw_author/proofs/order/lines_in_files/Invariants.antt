use Rattle.std.proofs.Common.{◌≡◌}
use Rattle.paw_author.specs.Order.{lines_in_files}
use Rattle.paw_author.proofs.order.lines_in_files.Given as goal

abbrev pub invariant-loop-file : goal.invariant-loop-file
invariant-loop-file l = l.lines.items ≡ lines_in_files l.all l.section l.file
