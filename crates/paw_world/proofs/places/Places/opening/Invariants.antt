use Rattle.std.proofs.Common.{◌≡◌, map, take}
use Rattle.paw_world.proofs.places.Places.opening.Given as goal

-- The objects so far stand where they begin.
abbrev pub invariant-loop-f : goal.invariant-loop-f
invariant-loop-f l = l.all ≡ map (λ f. f.start) (take l.f-index l.facts)
