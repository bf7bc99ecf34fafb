use Rattle.std.proofs.lemmas.Result.{err_from_is_err_and}
use Rattle.paw_image.proofs.ListLoop.{goes_on, ends, is_done, row_more, no_row_more}
use Rattle.paw_image.proofs.rows.read_rows.Goals as goal

pub returns-in_err-row : goal.returns-in_err-row
returns-in_err-row g c =
    let p = err_from_is_err_and c.from_residual.result c.from_residual.ensures.1 in
    let more = row_more g.R.ReadRow.reading c.args.count c.loop.counter c.loop.rest.now c.loop-test.true in
    let fails = ends c.loop.rows.items _ _ _ _ more c.loop.invariant c.in_err-row.field-0.0 c.in_err-row.ensures.gives in
    record { gives = rw (p.1, p.2) fails }

pub loop-preserved : goal.loop-preserved
loop-preserved g c =
    let more = row_more g.R.ReadRow.reading c.args.count c.loop.counter c.loop.rest.now c.loop-test.true in
    rw c.in_ok-push.ensures.items
    (goes_on c.loop.rows.items _ _ _ _ more c.loop.invariant c.in_ok-row.row c.in_ok-row.after.now c.in_ok-row.ensures.gives)

pub returns : goal.returns
returns g c =
    let none = no_row_more g.R.ReadRow.reading c.args.count c.loop.counter c.loop.rest.now c.loop-test.false in
    record { gives = is_done c.loop.rows.items c.loop.rest.now _ _ none c.loop.invariant }
