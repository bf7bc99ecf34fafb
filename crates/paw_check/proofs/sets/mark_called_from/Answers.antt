use Rattle.paw_check.proofs.SetLaws.{marks_table_more}
use Rattle.paw_check.proofs.sets.mark_called_from.Goals as goal

pub loop-table-preserved : goal.loop-table-preserved
loop-table-preserved c =
    marks_table_more _ c.loop-table.marks c.mark_called_in.new.marks c.args.tables.now c.args.from.now c.loop-table.table-index 0
    c.loop-table-test.true c.entries_of.result.now c.entries_of.ensures.value c.loop-table.invariant c.mark_called_in.ensures.marks
