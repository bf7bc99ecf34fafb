use Rattle.paw_host.proofs.Crashing.{may_be_begun_again}
use Rattle.paw_host.proofs.laws.may_be_begun_again.Goals as goal

pub returns : goal.returns
returns c = record { again = may_be_begun_again }
