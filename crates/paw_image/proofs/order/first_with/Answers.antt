use Rattle.paw_image.proofs.OrderLaws.{all_above}
use Rattle.paw_image.proofs.order.first_with.Goals as goal

pub returns-then-rank_of-first : goal.returns-then-rank_of-first
returns-then-rank_of-first c =
    let there = c.in_ok-first.ensures.item in
    let above = rw c.rank_of.ensures.value at c.if-rank_of-first.true in
    record {
      least = all_above c.args.run.now c.args.verb c.args.noun c.args.from c.in_ok-first.first.now c.requires.rises
          there.3.0 there.1 above;
    }
