use Rattle.std.proofs.Common.{length, arith}
use Rattle.std.proofs.lemmas.Result.{err_from_is_err_and}
use Rattle.paw_image.specs.inner.Milestones.{HasMilestones}
use Rattle.paw_image.specs.Damage.{after_table}
use Rattle.paw_image.specs.inner.Orders.{IsOrder}
use Rattle.paw_image.specs.declared.offsets.TableIndex.{TableIndex}
use Rattle.paw_image.proofs.EachLoop.{each_goes_on, each_ends, each_is_done, tables_go_on, tables_are_done, all_more}
use Rattle.paw_image.proofs.EndLaws.{table_end}
use Rattle.paw_image.proofs.offsets.pass_tables.Goals as goal

pub returns-in_err-table-clause-gives : goal.returns-in_err-table-clause-gives
returns-in_err-table-clause-gives c =
    let p = err_from_is_err_and c.from_residual.result c.from_residual.ensures.1 in
    rw (p.1, p.2)
    (each_ends (after_table c.args.rules.now) c.args.count c.loop.counter c.loop.rest.now _
    c.in_err-table.field-0.0 c.loop-test.true c.in_err-table.ensures.gives c.loop.invariant.left)

pub loop-preserved : goal.loop-preserved
loop-preserved c = record {
  left = each_goes_on (after_table c.args.rules.now) c.args.count c.loop.counter c.loop.rest.now _
      c.in_ok-table.after.now c.loop-test.true c.in_ok-table.ensures.gives c.loop.invariant.left;
  goes_on = rw c.in_ok-push.ensures.items
      (tables_go_on c.args.rules.now (length c.args.all.now) c.loop.tables.items c.args.count c.loop.counter
      c.loop.rest.now _ c.in_ok-table.table c.in_ok-table.after.now c.loop-test.true
      c.in_ok-table.ensures.gives c.in_ok-table.ensures.entries c.loop.invariant.goes_on);
  order = rw c.in_ok-push.ensures.items
      (all_more (λ (t : TableIndex). IsOrder c.args.all.now t.entries.items t.order) c.loop.tables.items
      c.in_ok-table.table c.loop.invariant.order c.in_ok-table.ensures.order);
  end = λ at.
      table_end c.args.all.now c.loop.rest.now c.in_ok-table.after.now (λ i. omega (arith, c.type_inv.all i))
      (c.loop.invariant.end at) c.args.rules.now c.in_ok-table.ensures.gives;
  marked = λ at. rw c.in_ok-push.ensures.items
      (all_more (HasMilestones c.args.all.now) c.loop.tables.items c.in_ok-table.table (c.loop.invariant.marked at)
      (c.in_ok-table.ensures.marked (c.loop.invariant.end at)));
}

pub returns-clause-gives : goal.returns-clause-gives
returns-clause-gives c = each_is_done (after_table c.args.rules.now) c.args.count c.loop.counter c.loop.rest.now _ c.loop-test.false c.loop.invariant.left

pub returns-clause-begin : goal.returns-clause-begin
returns-clause-begin c =
    tables_are_done c.args.rules.now (length c.args.all.now) c.loop.tables.items c.args.count c.loop.counter
    c.loop.rest.now _ c.loop-test.false c.loop.invariant.goes_on
