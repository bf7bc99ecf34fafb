use Rattle.paw_state.proofs.Lawful.{fields_stand, one_fault}
use Rattle.paw_state.proofs.laws.fields_stand.Goals as goal

pub returns : goal.returns
returns c = record { stand = fields_stand; one = one_fault }
