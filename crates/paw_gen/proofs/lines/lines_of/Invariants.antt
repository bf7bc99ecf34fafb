use Rattle.std.proofs.Common.{◌≡◌}
use Rattle.paw_gen.specs.Trial.{rows, trial_line}
use Rattle.paw_gen.proofs.lines.lines_of.Given as goal

abbrev pub invariant-loop-number : goal.invariant-loop-number
invariant-loop-number l = l.lines.items ≡ rows l.number trial_line
