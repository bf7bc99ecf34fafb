use Rattle.paw_image.proofs.VersionLaws.{plain_side, no_plain}
use Rattle.paw_image.proofs.version.plain_row.Goals as goal

pub returns-then-code-lt-INDIRECT : goal.returns-then-code-lt-INDIRECT
returns-then-code-lt-INDIRECT c =
    record {
      value = plain_side c.args.code c.condact_row.result c.if-code-lt-INDIRECT.true c.condact_row.ensures.value;
    }

pub returns-else-code-lt-INDIRECT : goal.returns-else-code-lt-INDIRECT
returns-else-code-lt-INDIRECT c =
    record { value = no_plain c.args.code c.if-code-lt-INDIRECT.false }
