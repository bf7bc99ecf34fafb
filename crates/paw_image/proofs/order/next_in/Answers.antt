use Rattle.paw_image.proofs.OrderLaws.{least_of_verbs}
use Rattle.paw_image.proofs.order.next_in.Goals as goal

pub returns : goal.returns
returns c = record {
  least = rw c.lower.ensures.value
      (least_of_verbs c.args.order.now.ranks.items c.args.verb c.args.noun c.args.from _ _
      c.first_for_any-none.ensures.least c.first_for-same.ensures.least);
}
