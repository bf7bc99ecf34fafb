use Rattle.std.proofs.Common.{ℕ, ◌<◌, ◌%◌, ◌∙◌, length, ap, arith}
use Rattle.paw_base.specs.declared.codes.TheConstants.{INDIRECT}
use Rattle.paw_base.specs.declared.rows.TheConstants.{CONDACTS}
use Rattle.paw_base.specs.Condacts.{CondactLine}
use Rattle.paw_base.specs.inner.Condacts.{IsCode}
use Rattle.paw_base.proofs.Table.{Held, code_within, held_at, plain_code_is, line_left}
use Rattle.paw_base.proofs.rows.plain_kinds.Goals as goal

within_rows : (code : ℕ) → IsCode code → code % INDIRECT < length CONDACTS
within_rows code is = code_within (code % INDIRECT) (plain_code_is code is)

pub prove-unreachable-requires : goal.prove-unreachable-requires
prove-unreachable-requires c =
    let within = within_rows c.args.code c.requires.code in
    omega (arith, within, c.if-prove.true)

pub returns-clause-first : goal.returns-clause-first
returns-clause-first c =
    ap (λ (row : Held). row.1) (held_at (c.args.code % INDIRECT) _ (within_rows c.args.code c.requires.code))
    ∙ ap (λ (line : CondactLine). line.first) (line_left c.args.code c.requires.code)

pub returns-clause-second : goal.returns-clause-second
returns-clause-second c =
    ap (λ (row : Held). row.2) (held_at (c.args.code % INDIRECT) _ (within_rows c.args.code c.requires.code))
    ∙ ap (λ (line : CondactLine). line.second) (line_left c.args.code c.requires.code)
