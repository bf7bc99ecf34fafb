use Rattle.paw_reading.proofs.Ends.{turns_end}
use Rattle.paw_reading.proofs.laws.turns_end.Goals as goal

pub returns : goal.returns
returns c = record { ends = turns_end }
