use Rattle.paw_base.proofs.Table.{within_code, indirect_within}
use Rattle.paw_base.proofs.rows.indirect_row.Goals as goal

pub returns-in_err-row : goal.returns-in_err-row
returns-in_err-row c =
    record {
      value = rw c.from_residual.ensures
          (λ may. c.in_err-row.ensures.value (within_code c.args.code (indirect_within c.args.code may)));
    }
