use Rattle.std.proofs.Common.{◌∙◌, sym, arith}
use Rattle.paw_base.proofs.Table.{code_within}
use Rattle.paw_base.proofs.Named.{code_named_found, code_named_only}
use Rattle.paw_base.proofs.rows.condact_named.Goals as goal

pub returns-in_err-code-clause-only : goal.returns-in_err-code-clause-only
returns-in_err-code-clause-only c =
    λ code h. c.from_residual.ensures ∙ c.in_err-code.ensures.value ∙ code_named_only code c.args.name.now h

pub overflow_cast-result : goal.overflow_cast-result
overflow_cast-result c =
    let within = code_within c.in_ok-code.code (code_named_found c.args.name.now c.in_ok-code.code (sym c.in_ok-code.ensures.value)).0 in
    omega (arith, within)

pub returns-clause-found : goal.returns-clause-found
returns-clause-found c = code_named_found c.args.name.now c.in_ok-code.code (sym c.in_ok-code.ensures.value)

pub returns-clause-only : goal.returns-clause-only
returns-clause-only c = λ code h. c.in_ok-code.ensures.value ∙ code_named_only code c.args.name.now h
