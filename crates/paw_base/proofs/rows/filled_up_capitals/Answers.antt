use Rattle.std.proofs.Common.{sym, ◌∙◌}
use Rattle.paw_base.proofs.Filled.{filled_in_code, is_plain_from}
use Rattle.paw_base.proofs.rows.filled_up_capitals.Goals as goal

pub returns-clause-plain : goal.returns-clause-plain
returns-clause-plain c = is_plain_from c.args.name.now c.if-name-gt8.false (sym c.contains.ensures.value ∙ c.if-contains.false)

pub returns-clause-value : goal.returns-clause-value
returns-clause-value c =
    filled_in_code c.args.name.now c.copy_from_slice.new.self c.make_ascii_uppercase.new.self
    c.copy_from_slice.ensures.after c.make_ascii_uppercase.ensures.after
