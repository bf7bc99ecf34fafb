use Rattle.paw_play.proofs.Rounds.{rounds_stand}
use Rattle.paw_play.proofs.laws.rounds_stand.Goals as goal

pub returns : goal.returns
returns c = record { rounds = rounds_stand }
