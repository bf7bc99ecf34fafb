use Rattle.std.proofs.Common.{◌≡◌, ◌≤◌, ◌+◌, ◌++◌, length}
use Rattle.paw_author.specs.FileLines.{whole_lines, with_numbers, file_lines}
use Rattle.paw_author.proofs.lines.file_lines.Given as goal

abbrev pub invariant-loop-left : goal.invariant-loop-left
invariant-loop-left l = record {
  lines : l.lines.items ++ with_numbers l.file l.number (whole_lines l.left) ≡ file_lines l.file l.bytes;
  few : l.number + length l.left ≤ length l.bytes;
}

abbrev pub decreases-loop-left : goal.decreases-loop-left
decreases-loop-left l = length l.left
