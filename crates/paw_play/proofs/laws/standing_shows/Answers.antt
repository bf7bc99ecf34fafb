use Rattle.paw_play.proofs.Standing.{standing_shows}
use Rattle.paw_play.proofs.laws.standing_shows.Goals as goal

pub returns : goal.returns
returns c = record { shows = standing_shows }
