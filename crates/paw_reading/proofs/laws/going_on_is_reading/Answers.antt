use Rattle.paw_reading.proofs.Followed.{turns_go_on, going_on_is_reading}
use Rattle.paw_reading.proofs.laws.going_on_is_reading.Goals as goal

pub returns : goal.returns
returns c = record { turns = turns_go_on; readings = going_on_is_reading }
