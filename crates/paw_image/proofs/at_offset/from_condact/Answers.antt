use Rattle.std.proofs.Common.{◌*◌, ◌/◌, ◌%◌, ◌∙◌, arith}
use Rattle.paw_image.proofs.CondactLaws.{each_more}
use Rattle.paw_image.proofs.CursorLaws.{none_from, among_from, fault_from, walked_end}
use Rattle.paw_image.proofs.EndLaws.{end_whole}
use Rattle.paw_image.specs.inner.Rows.{past_condact}
use Rattle.paw_image.proofs.at_offset.from_condact.Goals as goal

pub returns-then-at-count : goal.returns-then-at-count
returns-then-at-count c = record {
  value = none_from c.args.at c.args.count c.args.condacts.now c.args.condacts.now c.if-at-count.true;
  few = λ some. omega arith;
  end = end_whole c.args.condacts.now;
}

pub returns-in-Ok : goal.returns-in-Ok
returns-in-Ok c =
    let condacts = c.args.condacts.now in
    let rest = c.in-Ok.rest.now in
    let walk = each_more past_condact (c.args.at / 8 * 8) (c.args.at % 8) c.args.at condacts c.from_milestone.result.now
    (omega arith) c.from_milestone.ensures.value
    ∙ c.in-Ok.ensures.gives in
    record {
      value = among_from c.args.at c.args.count _ condacts rest walk (omega (arith, c.if-at-count.false));
      few = λ some. omega (arith, c.if-at-count.false);
      end = walked_end c.args.at condacts rest (λ i. omega (arith, c.type_inv.condacts i)) walk;
    }

pub returns-in-Err : goal.returns-in-Err
returns-in-Err c =
    let condacts = c.args.condacts.now in
    record {
      value = fault_from (c.args.at / 8 * 8) (c.args.at % 8) c.args.at c.args.count condacts c.from_milestone.result.now condacts c.from_milestone.ensures.value
          c.in-Err.ensures.fails (omega arith);
      few = λ some. omega arith;
      end = end_whole condacts;
    }
