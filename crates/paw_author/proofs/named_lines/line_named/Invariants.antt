use Rattle.std.proofs.Common.{◌≡◌, ◌++◌, length}
use Rattle.paw_author.specs.NamedLines.{line_named}
use Rattle.paw_author.proofs.named_lines.line_named.Given as goal

abbrev pub invariant-loop-part : goal.invariant-loop-part
invariant-loop-part l =
    l.named.items ++ line_named l.known l.to_come.items l.left.items ≡ line_named l.known l.fn.kinds.items l.fn.line

abbrev pub decreases-loop-part : goal.decreases-loop-part
decreases-loop-part l = length l.left.items
