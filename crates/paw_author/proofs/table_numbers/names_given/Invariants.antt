use Rattle.std.proofs.Common.{◌≡◌, length}
use Rattle.paw_author.specs.TableNumbers.{names_given}
use Rattle.paw_author.proofs.table_numbers.names_given.Given as goal

abbrev pub invariant-loop-u : goal.invariant-loop-u
invariant-loop-u l = names_given l.hooks l.next l.left ≡ names_given l.hooks l.fn.s l.all

abbrev pub decreases-loop-u : goal.decreases-loop-u
decreases-loop-u l = length l.left
