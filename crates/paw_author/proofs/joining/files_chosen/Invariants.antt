use Rattle.std.proofs.Common.{◌≡◌, ◌≤◌, ◌+◌, [], length}
use Rattle.paw_author.specs.Joining.{files_chosen}
use Rattle.paw_author.proofs.joining.files_chosen.Given as goal

abbrev pub invariant-loop-file : goal.invariant-loop-file
invariant-loop-file l = record {
  same : files_chosen l.switches l.number l.chosen.items l.left ≡ files_chosen l.switches 0 [] l.files;
  few : l.number ≤ 255;
  each : length l.chosen.items + length l.left ≡ length l.files;
}

abbrev pub decreases-loop-file : goal.decreases-loop-file
decreases-loop-file l = length l.left
