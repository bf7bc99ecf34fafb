use Rattle.paw_state.proofs.Lawful.{bytes_give_the_state}
use Rattle.paw_state.proofs.laws.bytes_give_the_state.Goals as goal

pub returns : goal.returns
returns c = record { same = bytes_give_the_state }
