use Rattle.std.proofs.Common.{◌≡◌, ◌++◌, drop}
use Rattle.paw_image.specs.inner.Orders.{ranks_at}
use Rattle.paw_image.proofs.order.ranks_at.Given as goal

abbrev pub invariant-loop-entry : goal.invariant-loop-entry
invariant-loop-entry l = l.ranks.items ++ ranks_at l.bytes l.entry (drop l.entry l.offsets) ≡ ranks_at l.bytes 0 l.offsets
