use Rattle.std.proofs.Common.{◌≡◌, ◌+◌, ◌*◌, ◌≤◌}
use Rattle.paw_world.specs.inner.Places.{left_above}
use Rattle.paw_world.specs.inner.Weight.{weight_with}
use Rattle.paw_world.proofs.Contents.{weights_above}
use Rattle.paw_world.proofs.world.World.+weigh.Given as goal

abbrev pub decreases-weight_down : goal.decreases-weight_down
decreases-weight_down l = 2 * l.levels

abbrev pub decreases-weight_with : goal.decreases-weight_with
decreases-weight_with l = 2 * l.levels + 1

-- What is left is added to the total so far.
abbrev pub invariant-weight_with-loop-o : goal.invariant-weight_with-loop-o
invariant-weight_with-loop-o l = record {
  adds_up : weights_above l.self l.levels l.p l.last l.total ≡ weight_with l.self l.levels l.own l.p;
  capped : l.total ≤ 255;
}

abbrev pub decreases-weight_with-loop-o : goal.decreases-weight_with-loop-o
decreases-weight_with-loop-o l = left_above l.self.places l.last
