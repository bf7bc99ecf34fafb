use Rattle.paw_reading.proofs.Past.{past_stays, longer_reading, longer_text}
use Rattle.paw_reading.proofs.laws.longer_reading.Goals as goal

pub returns : goal.returns
returns c = record { past = past_stays; pieces = longer_reading; text = longer_text }
