use Rattle.std.proofs.Common.{◌≡◌, ◌++◌, length}
use Rattle.paw_effects.specs.Texts.{printed_text}
use Rattle.paw_effects.proofs.text.print_text.Given as goal

-- What the piece holds, and what is still to print, are the whole.
abbrev pub invariant-loop-before : goal.invariant-loop-before
invariant-loop-before g l =
    l.piece ++ printed_text (g.T.Tables.game l.tables) l.world l.rest
    ≡ l.fn.piece ++ printed_text (g.T.Tables.game l.tables) l.world l.text

abbrev pub decreases-loop-before : goal.decreases-loop-before
decreases-loop-before g l = length l.rest
