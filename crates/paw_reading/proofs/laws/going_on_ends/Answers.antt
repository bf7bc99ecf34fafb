use Rattle.paw_reading.proofs.Ends.{going_on_ends}
use Rattle.paw_reading.proofs.laws.going_on_ends.Goals as goal

pub returns : goal.returns
returns c = record { ends = going_on_ends }
