use Rattle.std.proofs.Common.{◌≡◌, ◌++◌, drop}
use Rattle.paw_author.specs.TableNumbers.{numbers_known}
use Rattle.paw_author.proofs.table_numbers.add_numbers_known.Given as goal

abbrev pub invariant-loop-k : goal.invariant-loop-k
invariant-loop-k l = l.numbers.items ++ numbers_known (drop l.k-index l.known) ≡ l.initial.numbers.items ++ numbers_known l.known
