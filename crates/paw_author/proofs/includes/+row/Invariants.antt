use Rattle.std.proofs.Common.{◌≡◌, ◌+◌, ◌*◌, length}
use Rattle.paw_author.specs.Includes.{lines_before, file_before}
use Rattle.paw_author.proofs.includes.+row.Given as goal

abbrev pub decreases-file_before : goal.decreases-file_before
decreases-file_before l = 3 * l.depth

abbrev pub decreases-line_before : goal.decreases-line_before
decreases-line_before l = 3 * l.depth + 1

abbrev pub decreases-lines_before : goal.decreases-lines_before
decreases-lines_before l = 3 * l.depth + 2

-- The lines that are left, before the row so far.
abbrev pub invariant-lines_before-loop-line : goal.invariant-lines_before-loop-line
invariant-lines_before-loop-line l =
    lines_before (file_before l.depth l.files) l.files l.name l.left l.more.items
    ≡ lines_before (file_before l.depth l.files) l.files l.name l.lines l.fn.row.items

abbrev pub decreases-lines_before-loop-line : goal.decreases-lines_before-loop-line
decreases-lines_before-loop-line l = length l.left
