use Rattle.std.proofs.Common.{◌≡◌, length}
use Rattle.paw_author.specs.Choices.{chosen_from, no_line_yet}
use Rattle.paw_author.proofs.choices.chosen_lines.Given as goal

abbrev pub invariant-loop-line : goal.invariant-loop-line
invariant-loop-line l =
    chosen_from l.switches (record { parts = l.parts.items; lines = l.lines.items }) l.left.items
    ≡ chosen_from l.switches no_line_yet l.fn.file.items

abbrev pub decreases-loop-line : goal.decreases-loop-line
decreases-loop-line l = length l.left.items
