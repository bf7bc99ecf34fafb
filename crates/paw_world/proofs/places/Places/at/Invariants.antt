use Rattle.std.proofs.Common.{◌≡◌, take}
use Rattle.paw_world.proofs.places.Places.at.Given as goal

-- The objects so far stand at their places.
abbrev pub invariant-loop-p : goal.invariant-loop-p
invariant-loop-p l = l.all ≡ take l.p-index l.places
