use Rattle.std.proofs.Common.{◌≡◌}
use Rattle.std.specs.Prelude.{find}
use Rattle.paw_world.specs.inner.Places.{left_above}
use Rattle.paw_world.proofs.Contents.{above_at}
use Rattle.paw_effects.specs.ObjectSearch.{fits_sentence, least_fitting}
use Rattle.paw_effects.proofs.object_search.least_fitting.Given as goal

-- What is looked for is still ahead.
abbrev pub invariant-loop-o : goal.invariant-loop-o
invariant-loop-o l = find (fits_sentence l.world) (above_at l.world l.place l.last) ≡ least_fitting l.world l.place

abbrev pub decreases-loop-o : goal.decreases-loop-o
decreases-loop-o l = left_above l.world.places l.last
