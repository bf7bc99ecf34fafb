use Rattle.std.proofs.Common.{◌≡◌, ◌+◌, [], length}
use Rattle.paw_author.specs.Joining.{order_joined}
use Rattle.paw_author.proofs.joining.order_joined.Given as goal

abbrev pub invariant-loop-file : goal.invariant-loop-file
invariant-loop-file l = record {
  same : order_joined l.files l.place l.units.items l.left ≡ order_joined l.files 0 [] l.row;
  counted : l.place + length l.left ≡ length l.row;
}

abbrev pub decreases-loop-file : goal.decreases-loop-file
decreases-loop-file l = length l.left
