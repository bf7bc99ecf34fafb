use Rattle.paw_play.proofs.Standing.{standing_goes_on}
use Rattle.paw_play.proofs.laws.standing_goes_on.Goals as goal

pub returns : goal.returns
returns c = record { goes_on = standing_goes_on }
