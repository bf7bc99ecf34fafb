use Rattle.std.proofs.Common.{◌≡◌, [], take, drop}
use Rattle.paw_author.specs.NameRows.{namings_known}
use Rattle.paw_author.proofs.name_rows.namings_known.Given as goal

abbrev pub invariant-loop-i : goal.invariant-loop-i
invariant-loop-i l = namings_known (take l.i l.all) l.next (drop l.i l.all) ≡ namings_known [] l.fn.s l.all
