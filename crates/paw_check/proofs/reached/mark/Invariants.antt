use Rattle.std.proofs.Common.{take}
use Rattle.paw_check.specs.Verbs.{is_among}
use Rattle.paw_check.specs.inner.Capped.{MarksTables}
use Rattle.paw_check.proofs.reached.mark.Given as goal

abbrev pub invariant-loop-number : goal.invariant-loop-number
invariant-loop-number l = MarksTables l.fn.marks l.marks (is_among (take l.number-index l.numbers))
