use Rattle.std.proofs.Common.{sym, ◌∙◌}
use Rattle.paw_journal.proofs.finding.read_header.Goals as goal

pub returns-in-Ok-clause-refused : goal.returns-in-Ok-clause-refused
returns-in-Ok-clause-refused g c tells game rules =
    c.header_in.ensures.refused _ game rules (sym (c.requires.size tells) ∙ c.if-size-ne-SESSION_LENGTH.false)
    (c.in-Ok.ensures.read tells)
