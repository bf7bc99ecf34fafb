use Rattle.paw_check.proofs.SpotLaws.{spot_more, spot_found}
use Rattle.paw_check.proofs.spots.Sought.spot.Goals as goal

pub loop-number-preserved : goal.loop-number-preserved
loop-number-preserved c =
    spot_more c.args.self c.args.tables.now c.args.numbers.now c.loop-number.number-index 0 c.loop-number-test.true
    c.in_default.ensures.value c.loop-number.invariant

pub returns-in-Some : goal.returns-in-Some
returns-in-Some c = record {
  value = spot_found c.args.self c.args.tables.now c.args.numbers.now c.loop-number.number-index 0 c.in-Some.entry c.loop-number-test.true
      c.in-Some.ensures.value c.loop-number.invariant;
}
