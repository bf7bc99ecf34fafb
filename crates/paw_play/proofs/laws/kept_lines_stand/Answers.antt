use Rattle.paw_play.proofs.Standing.{kept_lines_stand}
use Rattle.paw_play.proofs.laws.kept_lines_stand.Goals as goal

pub returns : goal.returns
returns c = record { stand = kept_lines_stand }
