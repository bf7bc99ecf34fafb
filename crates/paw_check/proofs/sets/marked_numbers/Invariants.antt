use Rattle.std.proofs.Common.{◌≡◌, false}
use Rattle.std.specs.Prelude.{filter}
use Rattle.std.specs.List.{slice_index_or, range_with_len}
use Rattle.paw_check.proofs.sets.marked_numbers.Given as goal

abbrev pub invariant-loop-number : goal.invariant-loop-number
invariant-loop-number l =
    l.numbers.items ≡ filter (λ u. slice_index_or l.marks u false) (range_with_len 0 l.number)
