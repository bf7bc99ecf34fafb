use Rattle.std.proofs.Common.{◌≡◌}
use Rattle.paw_world.specs.inner.Places.{left_above}
use Rattle.paw_process.specs.inner.Objects.{least_taken}
use Rattle.paw_process.proofs.objects.next_taken.Given as goal

abbrev pub invariant-loop-o : goal.invariant-loop-o
invariant-loop-o g l =
    least_taken (g.T.Tables.game l.tables) l.world l.place (left_above l.world.places l.fn.above)
    ≡ least_taken (g.T.Tables.game l.tables) l.world l.place (left_above l.world.places l.last)

abbrev pub decreases-loop-o : goal.decreases-loop-o
decreases-loop-o g l = left_above l.world.places l.last
