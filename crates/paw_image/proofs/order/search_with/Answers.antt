use Rattle.std.proofs.Common.{sym, arith}
use Rattle.std.proofs.lemmas.Bool.{ltb-false}
use Rattle.paw_image.proofs.OrderLaws.{first_is, other_is, none_past}
use Rattle.paw_image.proofs.order.search_with.Goals as goal

pub returns-in-Some : goal.returns-in-Some
returns-in-Some c =
    let parts = rw c.rank_of-least.ensures.value at c.index_of_rank-at.ensures.parts in
    let there = c.in-Some.ensures.lookup in
    record {
      least = first_is c.args.run.now c.args.verb c.args.noun c.args.from c.index_of_rank-at.result c.requires.rises
          (omega arith) (omega arith) parts c.in-Some.rank.now there.3.0 there.1 (rw c.rank_of-least.ensures.value at c.if-rank-least.true);
    }

pub returns-in_default : goal.returns-in_default
returns-in_default c =
    let parts = rw c.rank_of-least.ensures.value at c.index_of_rank-at.ensures.parts in
    let there = c.in-Some.ensures.lookup in
    record {
      least = other_is c.args.run.now c.args.verb c.args.noun c.args.from c.index_of_rank-at.result c.requires.rises
          (omega arith) (omega arith) parts c.in-Some.rank.now there.3.0 there.1 (rw c.rank_of-least.ensures.value at c.if-rank-least.false);
    }

pub returns-in_default-2 : goal.returns-in_default-2
returns-in_default-2 c =
    let parts = rw c.rank_of-least.ensures.value at c.index_of_rank-at.ensures.parts in
    let past = ltb-false _ _ (sym (rw c.in_default.is at c.get.ensures.lookup.0)) in
    record {
      least = none_past c.args.run.now c.args.verb c.args.noun c.args.from c.index_of_rank-at.result c.requires.rises
          (omega arith) (omega arith) parts past;
    }
