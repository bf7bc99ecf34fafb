use Rattle.std.proofs.Common.{◌≡◌, ◌++◌, length}
use Rattle.paw_author.specs.Order.{all_ended}
use Rattle.paw_author.proofs.order.all_ended.Given as goal

abbrev pub invariant-loop-line : goal.invariant-loop-line
invariant-loop-line l = l.ended.items ++ all_ended l.left.items ≡ all_ended l.fn.lines.items

abbrev pub decreases-loop-line : goal.decreases-loop-line
decreases-loop-line l = length l.left.items
