use Rattle.std.proofs.Common.{◌∷◌, [], length, ap, ◌∙◌, arith}
use Rattle.std.proofs.lemmas.List.{length-append}
use Rattle.std.proofs.lemmas.Result.{err_from_is_err_and}
use Rattle.paw_image.proofs.EachLoop.{each_goes_on, each_ends, each_is_done, begins_go_on, begins_are_done}
use Rattle.paw_image.proofs.in_place.pass_rows.Goals as goal

pub returns-in_err-rest-clause-gives : goal.returns-in_err-rest-clause-gives
returns-in_err-rest-clause-gives g c =
    let p = err_from_is_err_and c.from_residual-in_err-rest.result c.from_residual-in_err-rest.ensures.1 in
    rw (p.1, p.2)
    (each_ends (g.R.InPlace.passing c.args.rules.now) c.args.count c.loop.counter c.loop.rest.now _
    c.in_err-rest.field-0.0 c.loop-test.true c.in_err-rest.ensures.gives c.loop.invariant.left)

pub loop-preserved : goal.loop-preserved
loop-preserved g c =
    let pass = g.R.InPlace.passing c.args.rules.now in
    record {
      left = each_goes_on pass c.args.count c.loop.counter c.loop.rest.now _ c.in_ok-rest.rest.now c.loop-test.true
          c.in_ok-rest.ensures.gives c.loop.invariant.left;
      goes_on = rw (c.in_ok-push.ensures.items, c.saturating_sub.ensures)
          (begins_go_on pass c.args.total c.loop.offsets.items c.args.count c.loop.counter c.loop.rest.now _
          c.in_ok-rest.rest.now c.loop-test.true c.in_ok-rest.ensures.gives c.loop.invariant.goes_on);
      many = ap length c.in_ok-push.ensures.items ∙ omega (arith, length-append c.loop.offsets.items (c.saturating_sub.result ∷ []), c.loop.invariant.many);
    }

pub returns-clause-gives : goal.returns-clause-gives
returns-clause-gives g c =
    each_is_done (g.R.InPlace.passing c.args.rules.now) c.args.count c.loop.counter c.loop.rest.now _
    c.loop-test.false c.loop.invariant.left

pub returns-clause-offsets : goal.returns-clause-offsets
returns-clause-offsets g c =
    begins_are_done (g.R.InPlace.passing c.args.rules.now) c.args.total c.loop.offsets.items c.args.count
    c.loop.counter c.loop.rest.now _ c.loop-test.false c.loop.invariant.goes_on
