use Rattle.std.proofs.Common.{◌*◌}
use Rattle.std.specs.List.{slice_index_or}
use Rattle.paw_check.specs.inner.Capped.{cell_at}
use Rattle.paw_check.proofs.RangeSums.{range_one_more}
use Rattle.paw_check.proofs.sums.called_sum.Goals as goal

pub loop-table-preserved : goal.loop-table-preserved
loop-table-preserved c =
    range_one_more (λ u. slice_index_or c.args.counts.now u 0 * cell_at c.args.called.now u c.args.verb) c.loop-table.table
    c.loop-table.sum c.called_times.result c.saturating_add-sum.result c.loop-table.invariant c.called_times.ensures.value c.saturating_add-sum.ensures
