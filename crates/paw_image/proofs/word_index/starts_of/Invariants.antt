use Rattle.std.proofs.Common.{◌≡◌, ℕ, ◌<◌, get_or, length}
use Rattle.paw_image.specs.inner.Groups.{AreBelowGroup, IsGroupStart}
use Rattle.paw_image.proofs.word_index.starts_of.Given as goal

abbrev pub invariant-loop-group : goal.invariant-loop-group
invariant-loop-group l = record {
  before : AreBelowGroup l.words l.group l.start;
  long : length l.starts.items ≡ l.group;
  each : (g : ℕ) → g < l.group → IsGroupStart l.words g (get_or l.starts.items g 0);
}
