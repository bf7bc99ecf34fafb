use Rattle.std.proofs.Common.{◌≡◌, false, length}
use Rattle.paw_author.specs.PlainSources.{are_plain}
use Rattle.paw_author.proofs.plain_sources.is_plain_source.Given as goal

abbrev pub invariant-loop-line : goal.invariant-loop-line
invariant-loop-line l = are_plain l.section l.text l.left ≡ are_plain 0 false l.lines

abbrev pub decreases-loop-line : goal.decreases-loop-line
decreases-loop-line l = length l.left
