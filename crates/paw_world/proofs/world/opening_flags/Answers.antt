use Rattle.std.proofs.Common.{ap}
use Rattle.paw_world.specs.World.{flags_with}
use Rattle.paw_world.proofs.world.opening_flags.Goals as goal

pub returns : goal.returns
unfolding flags_with
returns c = record { value = ap flags_with c.first_carried.ensures.value }
