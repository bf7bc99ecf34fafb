use Rattle.std.proofs.Common.{◌≡◌, ◌++◌, Some}
use Rattle.paw_world.specs.inner.Places.{left_above}
use Rattle.paw_effects.specs.Lists.{as_lines}
use Rattle.paw_effects.specs.inner.Listing.{texts_above}
use Rattle.paw_effects.proofs.lists.ObjectList.print_other_lines.Given as goal

-- What the piece holds, and the lines that are still to print, are the whole.
abbrev pub invariant-loop-o : goal.invariant-loop-o
invariant-loop-o g l =
    l.piece ++ as_lines (texts_above l.self.game l.self.world l.self.listed (Some l.last))
    ≡ l.fn.piece ++ as_lines (texts_above l.self.game l.self.world l.self.listed (Some l.first))

abbrev pub decreases-loop-o : goal.decreases-loop-o
decreases-loop-o g l = left_above l.self.world.places (Some l.last)
