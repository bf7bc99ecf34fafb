use Rattle.std.proofs.Common.{◌≡◌, ◌++◌, drop}
use Rattle.paw_author.specs.NameRows.{flags_written}
use Rattle.paw_author.proofs.name_rows.flags_written.Given as goal

abbrev pub invariant-loop-u : goal.invariant-loop-u
invariant-loop-u l = l.flags.items ++ flags_written (drop l.u-index l.all) ≡ flags_written l.all
