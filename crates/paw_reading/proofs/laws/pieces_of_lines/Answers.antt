use Rattle.paw_reading.proofs.Counts.{pieces_of_lines}
use Rattle.paw_reading.proofs.laws.pieces_of_lines.Goals as goal

pub returns : goal.returns
returns c = record { counted = pieces_of_lines }
