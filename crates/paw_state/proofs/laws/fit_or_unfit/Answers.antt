use Rattle.paw_state.proofs.Lawful.{fit_or_unfit}
use Rattle.paw_state.proofs.laws.fit_or_unfit.Goals as goal

pub returns : goal.returns
returns c = record { exactly = fit_or_unfit }
