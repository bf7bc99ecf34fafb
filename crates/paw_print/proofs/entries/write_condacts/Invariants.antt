use Rattle.std.proofs.Common.{◌≡◌, ◌++◌, map, take}
use Rattle.paw_print.specs.Lines.{condact_line}
use Rattle.paw_print.specs.Canonical.{with_line_ends}
use Rattle.paw_print.proofs.entries.write_condacts.Given as goal

abbrev pub invariant-loop-condact : goal.invariant-loop-condact
invariant-loop-condact l = l.out.items ≡ l.fn.out.items ++ with_line_ends (map (condact_line l.vocabulary) (take l.condact-index l.condacts))
