use Rattle.paw_reading.proofs.ShowingBytes.{readings_show_own_bytes}
use Rattle.paw_reading.proofs.laws.shows_own_bytes.Goals as goal

pub returns : goal.returns
returns c = record { readings = readings_show_own_bytes }
