use Rattle.std.proofs.Common.{refl}
use Rattle.std.proofs.lemmas.Result.{err_from_is_err_and}
use Rattle.paw_image.specs.inner.Reading.{leading_condact}
use Rattle.paw_image.specs.inner.Rows.{past_condact}
use Rattle.paw_image.proofs.EachLoop.{each_goes_on, each_ends, each_is_done}
use Rattle.paw_image.proofs.Faults.{fault_first, fails_next, each_fault}
use Rattle.paw_image.proofs.at_offset.past_condacts.Goals as goal

pub loop-preserved : goal.loop-preserved
loop-preserved c =
    each_goes_on past_condact c.args.count c.loop.counter c.loop.rest.now _ c.in_ok-after.after.now c.loop-test.true
    (rw c.in_ok-after.ensures.gives refl) c.loop.invariant

pub returns-in_err-after-clause-gives : goal.returns-in_err-after-clause-gives
returns-in_err-after-clause-gives c =
    let p = err_from_is_err_and c.from_residual.result c.from_residual.ensures.1 in
    let fails = fails_next c.in_err-after.field-0.0 (leading_condact c.loop.rest.now) _ c.in_err-after.ensures.gives in
    rw (p.1, p.2) (each_ends past_condact c.args.count c.loop.counter c.loop.rest.now _ c.in_err-after.field-0.0 c.loop-test.true fails c.loop.invariant)

pub returns-in_err-after-clause-fails : goal.returns-in_err-after-clause-fails
returns-in_err-after-clause-fails c =
    let p = err_from_is_err_and c.from_residual.result c.from_residual.ensures.1 in
    let fault = fault_first (leading_condact c.loop.rest.now) _ c.in_err-after.ensures.fails in
    rw p.1 (each_fault past_condact c.args.count c.loop.counter c.loop.rest.now _ c.loop-test.true fault c.loop.invariant)

pub returns-clause-gives : goal.returns-clause-gives
returns-clause-gives c = each_is_done past_condact c.args.count c.loop.counter c.loop.rest.now _ c.loop-test.false c.loop.invariant
