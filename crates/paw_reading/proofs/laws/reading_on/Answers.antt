use Rattle.paw_reading.proofs.Onward.{reading_on}
use Rattle.paw_reading.proofs.laws.reading_on.Goals as goal

pub returns : goal.returns
returns c = record { rules = reading_on }
