use Rattle.std.proofs.Common.{◌≡◌, drop}
use Rattle.paw_effects.specs.ObjectSearch.{first_fitting}
use Rattle.paw_effects.proofs.object_search.first_fitting.Given as goal

-- No object stands at the places so far.
abbrev pub invariant-loop-spot : goal.invariant-loop-spot
invariant-loop-spot l = first_fitting l.world (drop l.spot-index l.spots) ≡ first_fitting l.world l.spots
