use Rattle.paw_reading.proofs.Longer.{tables_go_on, paths_go_on}
use Rattle.paw_reading.proofs.laws.tables_go_on.Goals as goal

pub returns : goal.returns
returns c = record { tables = tables_go_on; paths = paths_go_on }
