use Rattle.std.proofs.Common.{arith}
use Rattle.paw_check.specs.inner.Own.{own_in}
use Rattle.paw_check.proofs.RoundLaws.{round_is, row_most}
use Rattle.paw_check.proofs.costs.round_cost.Goals as goal

pub returns : goal.returns
returns c =
    let holds = c.in_ok-rows.ensures.value in
    let g = c.args.parts.now in
    let own = own_in c.args.own.now in
    record {
      value = round_is g own c.args.changing c.greatest_of-response.result c.greatest_of-described.result c.greatest_of-frame.result
          c.saturating_add.result c.saturating_add-2.result
          (row_most g own c.args.changing c.in_ok-rows.rows.items 0 _ _ holds (omega (arith, c.requires.some, c.in_ok-rows.ensures.long)) c.index.ensures
          c.greatest_of-response.ensures.long c.greatest_of-response.ensures.value)
          (row_most g own c.args.changing c.in_ok-rows.rows.items 1 _ _ holds (omega (arith, c.requires.some, c.in_ok-rows.ensures.long)) c.index-2.ensures
          c.greatest_of-described.ensures.long c.greatest_of-described.ensures.value)
          (row_most g own c.args.changing c.in_ok-rows.rows.items 2 _ _ holds (omega (arith, c.requires.some, c.in_ok-rows.ensures.long)) c.index-3.ensures
          c.greatest_of-frame.ensures.long c.greatest_of-frame.ensures.value)
          c.saturating_add.ensures c.saturating_add-2.ensures;
    }
