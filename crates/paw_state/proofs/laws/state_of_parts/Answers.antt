use Rattle.paw_state.proofs.Ruled.{state_of_parts}
use Rattle.paw_state.proofs.laws.state_of_parts.Goals as goal

pub returns : goal.returns
returns c = record { same = state_of_parts }
