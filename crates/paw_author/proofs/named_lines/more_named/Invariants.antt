use Rattle.std.proofs.Common.{◌≡◌, ◌++◌, [], length, map}
use Rattle.paw_author.specs.NamedLines.{line_named}
use Rattle.paw_author.proofs.named_lines.more_named.Given as goal

abbrev pub invariant-loop-line : goal.invariant-loop-line
invariant-loop-line l =
    l.named.items ++ map (λ line. line_named l.known [] line) l.left.items
    ≡ l.fn.before.items ++ map (λ line. line_named l.known [] line) l.fn.lines.items

abbrev pub decreases-loop-line : goal.decreases-loop-line
decreases-loop-line l = length l.left.items
