use Rattle.paw_image.proofs.OrderLaws.{least_of_nouns, least_of_no_noun}
use Rattle.paw_image.proofs.order.first_for.Goals as goal

pub returns-then-noun-eq-NO_WORD : goal.returns-then-noun-eq-NO_WORD
returns-then-noun-eq-NO_WORD c = record {
  least = least_of_no_noun c.args.order.now.ranks.items c.run_of-run.result.now c.args.verb c.args.noun c.args.from
      (rw c.deref.ensures.value at c.run_of-run.ensures.run) c.first_with-none.result c.if-noun-eq-NO_WORD.true c.first_with-none.ensures.least;
}

pub returns : goal.returns
returns c = record {
  least = rw c.lower.ensures.value
      (least_of_nouns c.args.order.now.ranks.items c.run_of-run.result.now c.args.verb c.args.noun c.args.from
      (rw c.deref.ensures.value at c.run_of-run.ensures.run) _ _ c.first_with-none.ensures.least c.first_with-same.ensures.least);
}
