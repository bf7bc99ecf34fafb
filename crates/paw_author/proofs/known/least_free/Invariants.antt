use Rattle.std.proofs.Common.{◌≡◌, ◌+◌, ◌-◌, not, find}
use Rattle.std.specs.List.{range_with_len}
use Rattle.paw_author.specs.Known.{is_in_use, least_free}
use Rattle.paw_author.proofs.known.least_free.Given as goal

abbrev pub invariant-loop-number : goal.invariant-loop-number
invariant-loop-number l =
    find (λ n. not (is_in_use l.taken n)) (range_with_len l.number (l.from + l.count - l.number)) ≡ least_free l.from l.count l.taken
