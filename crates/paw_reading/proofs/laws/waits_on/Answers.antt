use Rattle.paw_reading.proofs.Waiting.{waits_on}
use Rattle.paw_reading.proofs.laws.waits_on.Goals as goal

pub returns : goal.returns
returns c = record { waits = waits_on }
