use Rattle.paw_source.proofs.FaultLaws.{names_the_first}
use Rattle.paw_source.proofs.laws.the_first_is_named.Goals as goal

pub returns : goal.returns
returns c =
    record { first = names_the_first }
