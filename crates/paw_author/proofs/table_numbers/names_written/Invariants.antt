use Rattle.std.proofs.Common.{◌≡◌, length}
use Rattle.paw_author.specs.TableNumbers.{names_written}
use Rattle.paw_author.proofs.table_numbers.names_written.Given as goal

abbrev pub invariant-loop-u : goal.invariant-loop-u
invariant-loop-u l = names_written l.more.items l.left ≡ names_written l.fn.known.items l.all

abbrev pub decreases-loop-u : goal.decreases-loop-u
decreases-loop-u l = length l.left
