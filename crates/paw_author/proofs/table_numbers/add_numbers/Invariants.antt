use Rattle.std.proofs.Common.{◌≡◌, ◌++◌, drop}
use Rattle.paw_author.specs.TableNumbers.{numbers_written}
use Rattle.paw_author.proofs.table_numbers.add_numbers.Given as goal

abbrev pub invariant-loop-u : goal.invariant-loop-u
invariant-loop-u l = l.numbers.items ++ numbers_written (drop l.u-index l.all) ≡ l.initial.numbers.items ++ numbers_written l.all
