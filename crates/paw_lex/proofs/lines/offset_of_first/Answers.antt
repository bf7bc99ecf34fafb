use Rattle.std.proofs.Common.{◌∙◌}
use Rattle.paw_lex.proofs.FirstByte.{first_offset}
use Rattle.paw_lex.proofs.lines.offset_of_first.Goals as goal

pub returns-clause-value : goal.returns-clause-value
returns-clause-value c = c.unwrap_or.ensures ∙ first_offset c.args.byte c.args.bytes.now c.memchr.result c.memchr.ensures
