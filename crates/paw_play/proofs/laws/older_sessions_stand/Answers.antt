use Rattle.paw_play.proofs.Older.{older_sessions_stand}
use Rattle.paw_play.proofs.laws.older_sessions_stand.Goals as goal

pub returns : goal.returns
returns c = record { stands = older_sessions_stand }
