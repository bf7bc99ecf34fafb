use Rattle.paw_source.proofs.CountLaws.{counts_tables}
use Rattle.paw_source.proofs.laws.tables_are_counted.Goals as goal

pub returns : goal.returns
returns c =
    record { counted = counts_tables }
