use Rattle.paw_source.proofs.FaultLaws.{is_named_rightly}
use Rattle.paw_source.proofs.laws.faults_are_named_rightly.Goals as goal

pub returns : goal.returns
returns c =
    record { rightly = is_named_rightly }
