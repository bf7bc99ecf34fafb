use Rattle.paw_effects.proofs.Meant.{each_acts}
use Rattle.paw_effects.proofs.laws.each_acts_as_its_row_says.Goals as goal

pub returns : goal.returns
returns c = record { law = each_acts }
