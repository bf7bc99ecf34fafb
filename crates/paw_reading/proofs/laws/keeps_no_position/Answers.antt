use Rattle.paw_reading.proofs.Saving.{readings_keep_no_position, going_on_leaves_positions}
use Rattle.paw_reading.proofs.laws.keeps_no_position.Goals as goal

pub returns : goal.returns
returns c = record { readings = readings_keep_no_position; going_on = going_on_leaves_positions }
