use Rattle.std.proofs.Common.{◌∙◌, ap}
use Rattle.paw_base.specs.declared.rows.CondactRow.{CondactRow}
use Rattle.paw_base.specs.inner.Condacts.{before_space}
use Rattle.paw_base.proofs.Table.{before_space-row_of}
use Rattle.paw_base.proofs.rows.CondactRow.trimmed_name.Goals as goal

pub returns-clause-of_code : goal.returns-clause-of_code
returns-clause-of_code c =
    λ code h e. c.up_to_space.ensures.value ∙ ap (λ (row : CondactRow). before_space row.name) e ∙ before_space-row_of code h
