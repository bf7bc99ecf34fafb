use Rattle.paw_turn.proofs.Seating.{seated_as}
use Rattle.paw_turn.proofs.laws.seated_again.Goals as goal

pub returns : goal.returns
returns g c = record { same = λ p seated standing. seated_as p seated standing }
