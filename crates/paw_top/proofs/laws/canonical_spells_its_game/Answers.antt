use Rattle.paw_top.proofs.Whole.{spells_itself}
use Rattle.paw_top.proofs.laws.canonical_spells_its_game.Goals as goal

pub returns : goal.returns
returns c = record { spells = spells_itself c.tables_are_counted.ensures.counted }
