use Rattle.std.proofs.Common.{refl}
use Rattle.paw_base.proofs.Table.{plain_below, plain_of_code, plain_within, indirect_of_code}
use Rattle.paw_base.proofs.rows.plain_code.Goals as goal

pub returns-then-code-lt-INDIRECT-clause-value : goal.returns-then-code-lt-INDIRECT-clause-value
returns-then-code-lt-INDIRECT-clause-value c = rw (plain_below c.args.code c.if-code-lt-INDIRECT.true) refl

pub returns-then-code-lt-INDIRECT-clause-plain : goal.returns-then-code-lt-INDIRECT-clause-plain
returns-then-code-lt-INDIRECT-clause-plain c = plain_of_code c.args.code c.requires.code c.if-code-lt-INDIRECT.true

pub returns-else-code-lt-INDIRECT-clause-value : goal.returns-else-code-lt-INDIRECT-clause-value
returns-else-code-lt-INDIRECT-clause-value c = rw (indirect_of_code c.args.code c.requires.code c.if-code-lt-INDIRECT.false) refl

pub returns-else-code-lt-INDIRECT-clause-plain : goal.returns-else-code-lt-INDIRECT-clause-plain
returns-else-code-lt-INDIRECT-clause-plain c = plain_within c.args.code c.requires.code c.if-code-lt-INDIRECT.false
