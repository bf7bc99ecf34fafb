use Rattle.paw_base.proofs.Table.{plain_side, indirect_side}
use Rattle.paw_base.proofs.rows.condact_row.Goals as goal

pub returns-then-code-lt-INDIRECT : goal.returns-then-code-lt-INDIRECT
returns-then-code-lt-INDIRECT c =
    record { value = plain_side c.args.code c.if-code-lt-INDIRECT.true c.plain_row.result c.plain_row.ensures.value }

pub returns-else-code-lt-INDIRECT : goal.returns-else-code-lt-INDIRECT
returns-else-code-lt-INDIRECT c =
    record { value = indirect_side c.args.code c.if-code-lt-INDIRECT.false c.indirect_row.result c.indirect_row.ensures.value }
