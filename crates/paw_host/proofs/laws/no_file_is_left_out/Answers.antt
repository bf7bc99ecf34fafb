use Rattle.paw_host.proofs.Crashing.{no_file_is_left_out}
use Rattle.paw_host.proofs.laws.no_file_is_left_out.Goals as goal

pub returns : goal.returns
returns c = record { any = no_file_is_left_out }
