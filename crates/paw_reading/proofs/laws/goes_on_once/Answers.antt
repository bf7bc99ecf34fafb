use Rattle.paw_reading.proofs.Ends.{goes_on_once}
use Rattle.paw_reading.proofs.laws.goes_on_once.Goals as goal

pub returns : goal.returns
returns c = record { once = goes_on_once }
