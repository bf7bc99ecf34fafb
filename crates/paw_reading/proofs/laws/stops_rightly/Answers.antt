use Rattle.paw_reading.proofs.Rightly.{readings_stop_rightly, going_on_stops_rightly}
use Rattle.paw_reading.proofs.laws.stops_rightly.Goals as goal

pub returns : goal.returns
returns c = record { readings = readings_stop_rightly; going_on = going_on_stops_rightly }
