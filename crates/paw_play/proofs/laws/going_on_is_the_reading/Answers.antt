use Rattle.paw_play.proofs.Standing.{going_on_is_the_reading}
use Rattle.paw_play.proofs.laws.going_on_is_the_reading.Goals as goal

pub returns : goal.returns
returns c = record { goes_on = going_on_is_the_reading }
