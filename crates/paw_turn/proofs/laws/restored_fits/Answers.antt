use Rattle.paw_turn.proofs.Seating.{restored_fits}
use Rattle.paw_turn.proofs.laws.restored_fits.Goals as goal

pub returns : goal.returns
returns c = record { fits = restored_fits }
