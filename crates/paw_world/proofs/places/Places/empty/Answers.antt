use Rattle.std.proofs.Common.{ℕ}
use Rattle.std.proofs.lemmas.List.{length-replicate}
use Rattle.paw_base.specs.declared.limits.TheConstants.{OBJECT_LIMIT}
use Rattle.paw_world.proofs.Sets.{no_sets}
use Rattle.paw_world.proofs.places.Places.empty.Goals as goal

pub invariant_of-result : goal.invariant_of-result
invariant_of-result c = let zero : ℕ = 0 in no_sets _ (length-replicate OBJECT_LIMIT zero)
