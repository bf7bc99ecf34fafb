use Rattle.std.proofs.Common.{◌-◌, length}
use Rattle.paw_image.specs.inner.Orders.{IsBefore}
use Rattle.paw_image.proofs.order.start_from.Given as goal

abbrev pub invariant-loop-at : goal.invariant-loop-at
invariant-loop-at l = IsBefore l.ranks l.verb l.at

abbrev pub decreases-loop-at : goal.decreases-loop-at
decreases-loop-at l = length l.ranks - l.at
