use Rattle.paw_host.proofs.Alone.{pieces_are_answered}
use Rattle.paw_host.proofs.laws.pieces_are_answered.Goals as goal

pub returns : goal.returns
returns c = record { pieces = pieces_are_answered }
