use Rattle.paw_reading.proofs.Rightly.{readings_are_bounded, going_on_is_bounded}
use Rattle.paw_reading.proofs.laws.stays_bounded.Goals as goal

pub returns : goal.returns
returns c = record { readings = readings_are_bounded; going_on = going_on_is_bounded }
