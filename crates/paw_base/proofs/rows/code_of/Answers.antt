use Rattle.std.proofs.Common.{◌∙◌, sym}
use Rattle.paw_base.proofs.Named.{code_of_filled_up, no_code}
use Rattle.paw_base.proofs.rows.code_of.Goals as goal

pub returns-in_err-wanted : goal.returns-in_err-wanted
returns-in_err-wanted c =
    record { value = c.from_residual.ensures ∙ sym (no_code c.args.name.now c.in_err-wanted.ensures.plain) }

pub returns : goal.returns
returns c =
    record {
      value = c.index_of_name.ensures.value
          ∙ rw c.in_ok-wanted.ensures.value (code_of_filled_up c.args.name.now c.in_ok-wanted.ensures.plain);
    }
