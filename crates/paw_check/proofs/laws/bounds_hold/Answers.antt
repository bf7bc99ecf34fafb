use Rattle.paw_check.proofs.EveryPlay.{every_bound_holds}
use Rattle.paw_check.proofs.laws.bounds_hold.Goals as goal

pub returns : goal.returns
returns c = record { hold = every_bound_holds }
