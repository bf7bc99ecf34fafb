-- The bound that is found of a game holds for every play of it.
use Rattle.paw_check.specs.Promise.{BoundsHold}
use Rattle.paw_check.proofs.Within.{tables_within}
use Rattle.paw_check.proofs.Holds.{bounds_hold}

pub every_bound_holds : BoundsHold
every_bound_holds = bounds_hold tables_within
