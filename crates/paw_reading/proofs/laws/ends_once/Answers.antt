use Rattle.paw_reading.proofs.Ends.{ends_once}
use Rattle.paw_reading.proofs.laws.ends_once.Goals as goal

pub returns : goal.returns
returns c = record { once = ends_once }
