use Rattle.std.proofs.Common.{◌-◌, length}
use Rattle.paw_image.specs.inner.Groups.{AreBelowGroup}
use Rattle.paw_image.proofs.word_index.start_from.Given as goal

abbrev pub invariant-loop-at : goal.invariant-loop-at
invariant-loop-at l = AreBelowGroup l.words l.group l.at

abbrev pub decreases-loop-at : goal.decreases-loop-at
decreases-loop-at l = length l.words - l.at
