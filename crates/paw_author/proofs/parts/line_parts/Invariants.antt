use Rattle.std.proofs.Common.{◌≡◌, ◌+◌, ◌++◌, length}
use Rattle.paw_author.specs.Parts.{parts_from, line_parts}
use Rattle.paw_author.proofs.parts.line_parts.Given as goal

abbrev pub invariant-loop-left : goal.invariant-loop-left
invariant-loop-left l = record {
  same : l.parts.items ++ parts_from (length l.left) (record { file = l.file; line = l.number; column = l.column }) l.left
      ≡ line_parts l.file l.number l.bytes;
  within : l.column + length l.left ≡ length l.bytes + 1;
}

abbrev pub decreases-loop-left : goal.decreases-loop-left
decreases-loop-left l = length l.left
