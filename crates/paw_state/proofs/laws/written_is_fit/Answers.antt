use Rattle.paw_state.proofs.Lawful.{written_is_fit}
use Rattle.paw_state.proofs.laws.written_is_fit.Goals as goal

pub returns : goal.returns
returns c = record { fit = written_is_fit }
