use Rattle.std.proofs.Common.{◌≡◌, ◌≤◌, length}
use Rattle.paw_base.specs.declared.limits.TheConstants.{SOURCE_LIMIT}
use Rattle.paw_lex.specs.Lines.{lines_of}
use Rattle.paw_grammar.specs.GrammarState.{nothing_yet}
use Rattle.paw_grammar.specs.Spells.{spelled_after}
use Rattle.paw_source.specs.inner.Laws.{after_lines}
use Rattle.paw_source.proofs.source.read_lines.Given as goal

abbrev pub invariant-loop-line : goal.invariant-loop-line
invariant-loop-line l =
    (spelled_after l.tables l.number l.draft l.lines.left ≡ spelled_after l.tables 0 nothing_yet (lines_of l.source))
    × (after_lines l.tables l.draft l.lines.left ≡ after_lines l.tables nothing_yet (lines_of l.source))
    × (l.number ≡ l.lines.given)
    × (l.number ≤ SOURCE_LIMIT)
    × (l.lines.source ≡ l.source)

abbrev pub decreases-loop-line : goal.decreases-loop-line
decreases-loop-line l = length l.lines.left
