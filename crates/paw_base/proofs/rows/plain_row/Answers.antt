use Rattle.std.proofs.Common.{ℕ, ◌<◌, ◌≤◌, length, None, Some, arith}
use Rattle.std.specs.Slice.{IsItemAt}
use Rattle.paw_base.specs.declared.rows.TheConstants.{CONDACTS}
use Rattle.paw_base.specs.inner.Condacts.{IsPlainCode}
use Rattle.paw_base.proofs.Table.{code_within, within_code, row_is}
use Rattle.paw_base.proofs.rows.plain_row.Goals as goal

no_row : (code : ℕ) → length CONDACTS ≤ code → ¬ IsPlainCode code
no_row code past is = let within = code_within code is in omega (arith, within, past)

pub returns : goal.returns
returns c =
    let h : IsItemAt CONDACTS c.args.code (Some c.in_ok-name.field-0) = c.in_ok-name.ensures.lookup in
    let within : c.args.code < length CONDACTS = h.3.0 in
    record { value = (within_code c.args.code within, row_is c.args.code c.in_ok-name.field-0.now within h.1) }

pub returns-in_err-name : goal.returns-in_err-name
returns-in_err-name c =
    let h : IsItemAt CONDACTS c.args.code None = c.in_err-name.ensures.lookup in
    record { value = rw c.from_residual.ensures (no_row c.args.code h.3) }
