use Rattle.std.proofs.Common.{◌-◌, length}
use Rattle.paw_wrap.proofs.Scanning.{Reached}
use Rattle.paw_wrap.proofs.columns.first_fit_breaks.Given as goal

abbrev pub invariant-loop-at : goal.invariant-loop-at
invariant-loop-at l = Reached l.width l.text l.breaks.items l.line l.at

abbrev pub decreases-loop-at : goal.decreases-loop-at
decreases-loop-at l = length l.text - l.at
