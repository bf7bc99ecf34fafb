use Rattle.std.proofs.Common.{◌≡◌, ◌≤◌, ◌+◌, length}
use Rattle.std.specs.List.{count_by}
use Rattle.paw_base.specs.declared.limits.TheConstants.{SOURCE_LIMIT}
use Rattle.paw_lex.specs.Lines.{lines_of}
use Rattle.paw_grammar.specs.Spells.{begins_table}
use Rattle.paw_source.proofs.source.count_tables.Given as goal

abbrev pub invariant-loop-line : goal.invariant-loop-line
invariant-loop-line l = (l.tables + count_by begins_table l.lines.left ≡ count_by begins_table (lines_of l.source))
    × (l.tables ≤ l.lines.given) × (l.lines.given ≤ SOURCE_LIMIT) × (l.lines.source ≡ l.source)

abbrev pub decreases-loop-line : goal.decreases-loop-line
decreases-loop-line l = length l.lines.left
