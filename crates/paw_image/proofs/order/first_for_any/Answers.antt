use Rattle.std.proofs.Common.{sym, subst}
use Rattle.paw_base.specs.declared.words.TheConstants.{NO_WORD}
use Rattle.paw_image.specs.inner.Orders.{is_pair, IsLeast, IsMatch}
use Rattle.paw_image.proofs.OrderLaws.{least_of_any}
use Rattle.paw_image.proofs.order.first_for_any.Goals as goal

pub returns : goal.returns
returns c =
    let ranks = c.args.order.now.ranks.items in
    let any = subst (IsLeast (IsMatch ranks (is_pair NO_WORD NO_WORD) c.args.from)) (sym c.any_from-none.ensures.value)
    (c.requires.sorted.next_any c.args.from) in
    record {
      least = rw c.lower.ensures.value
          (least_of_any ranks c.run_of-run.result.now NO_WORD c.args.noun c.args.from (rw c.deref.ensures.value at c.run_of-run.ensures.run) _ _ any
          c.first_with-same.ensures.least);
    }
