use Rattle.std.proofs.Common.{◌≡◌, ◌*◌}
use Rattle.std.specs.Prelude.{sum_by}
use Rattle.std.specs.List.{slice_index_or, range_with_len}
use Rattle.paw_check.specs.inner.Capped.{in_32_bits, cell_at}
use Rattle.paw_check.proofs.sums.called_sum.Given as goal

abbrev pub invariant-loop-table : goal.invariant-loop-table
invariant-loop-table l =
    l.sum ≡ in_32_bits (sum_by (λ u. slice_index_or l.counts u 0 * cell_at l.called u l.verb) (range_with_len 0 l.table))
