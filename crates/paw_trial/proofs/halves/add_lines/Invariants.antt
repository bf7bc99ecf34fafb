use Rattle.std.proofs.Common.{◌≡◌, ◌++◌, take}
use Rattle.paw_trial.proofs.halves.add_lines.Given as goal

abbrev pub invariant-loop-line : goal.invariant-loop-line
invariant-loop-line l = l.stage ≡ record l.initial.stage { lines = l.initial.stage.lines ++ take l.line-index l.lines }
