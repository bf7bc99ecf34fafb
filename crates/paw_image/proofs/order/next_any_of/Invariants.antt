use Rattle.paw_image.proofs.AnyLaws.{IsNextAnyBefore}
use Rattle.paw_image.proofs.order.next_any_of.Given as goal

abbrev pub invariant-loop-rank : goal.invariant-loop-rank
invariant-loop-rank l = IsNextAnyBefore l.ranks l.rank-index l.next.items
