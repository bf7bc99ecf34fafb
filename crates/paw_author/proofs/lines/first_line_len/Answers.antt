use Rattle.paw_author.proofs.WholeLines.{first_ended, first_unended}
use Rattle.paw_author.proofs.lines.first_line_len.Goals as goal

pub returns-then-before-bytes-clause-lines : goal.returns-then-before-bytes-clause-lines
returns-then-before-bytes-clause-lines c = first_ended c.args.bytes.now c.len_before-before.result c.len_before-before.ensures.value c.if-before-bytes.true

pub returns-else-before-bytes-clause-lines : goal.returns-else-before-bytes-clause-lines
returns-else-before-bytes-clause-lines c =
    first_unended c.args.bytes.now c.len_before-before.result c.len_before-before.ensures.value c.requires.some c.if-before-bytes.false
