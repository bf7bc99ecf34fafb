use Rattle.std.proofs.Common.{arith}
use Rattle.paw_base.specs.declared.words.TheConstants.{NO_WORD}
use Rattle.paw_image.proofs.OrderLaws.{least_in_run}
use Rattle.paw_image.proofs.order.order_of.Goals as goal

pub returns : goal.returns
returns c = record {
  order = record {
    same = c.in_ok-ranks.ensures.same;
    few = c.requires.few;
    fits = λ at. omega (arith, c.type_inv.bytes at);
    sorted = record {
      rises = c.in_ok-ranks.ensures.rises;
      starts = rw c.deref.ensures.value at c.in_ok-starts.ensures.starts;
      next_any = λ from.
          let run = c.run_of.result.now in
          let is = rw c.deref-2.ensures.value at c.run_of.ensures.run in
          least_in_run c.in_ok-ranks.ranks.items run NO_WORD NO_WORD from is _ (c.in_ok-next_any.ensures.next from);
    };
  };
}
