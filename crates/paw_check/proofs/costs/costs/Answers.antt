use Rattle.std.proofs.Common.{◌≡◌, arith}
use Rattle.std.proofs.Math.Numerals.{add-one}
use Rattle.paw_base.specs.declared.limits.TheConstants.{LEVEL_LIMIT}
use Rattle.paw_check.specs.inner.Own.{own_in}
use Rattle.paw_check.proofs.LevelLaws.{first_costs, next_costs}
use Rattle.paw_check.proofs.costs.costs.Goals as goal

pub loop-init : goal.loop-init
loop-init c = record {
  long = c.in_ok-rows.ensures.long;
  costs = first_costs c.args.parts.now (own_in c.args.own.now) c.args.changing c.in_ok-rows.rows.items c.in_ok-rows.ensures.value;
}

pub loop-preserved : goal.loop-preserved
loop-preserved c = record {
  long = c.in_ok-next.ensures.long;
  costs = rw (add-one c.loop.counter)
      (next_costs c.args.parts.now (own_in c.args.own.now) c.args.changing c.loop.counter c.as_slice.result.now c.in_ok-next.next.items
      (rw c.as_slice.ensures.value c.loop.invariant.costs) c.in_ok-next.ensures.value);
}

pub returns-clause-value : goal.returns-clause-value
returns-clause-value c =
    let last : c.loop.counter ≡ LEVEL_LIMIT = omega (arith, c.loop-test.false, c.loop.auto.counter-end) in
    let costs = rw last at c.loop.invariant.costs in
    costs
