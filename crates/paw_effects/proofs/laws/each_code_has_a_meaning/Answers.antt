use Rattle.paw_effects.proofs.Meant.{each_has_a_meaning}
use Rattle.paw_effects.proofs.laws.each_code_has_a_meaning.Goals as goal

pub returns : goal.returns
returns c = record { law = each_has_a_meaning }
