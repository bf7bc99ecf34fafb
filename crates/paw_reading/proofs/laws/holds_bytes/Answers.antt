use Rattle.paw_reading.proofs.HoldingBytes.{readings_hold_bytes, going_on_holds_bytes}
use Rattle.paw_reading.proofs.laws.holds_bytes.Goals as goal

pub returns : goal.returns
returns c = record { readings = readings_hold_bytes; going_on = going_on_holds_bytes }
