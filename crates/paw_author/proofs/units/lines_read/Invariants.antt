use Rattle.std.proofs.Common.{◌≡◌, length}
use Rattle.paw_author.specs.Units.{lines_read}
use Rattle.paw_author.proofs.units.lines_read.Given as goal

abbrev pub invariant-loop-line : goal.invariant-loop-line
invariant-loop-line l = lines_read l.read l.left.items ≡ lines_read l.fn.s l.fn.file.items

abbrev pub decreases-loop-line : goal.decreases-loop-line
decreases-loop-line l = length l.left.items
