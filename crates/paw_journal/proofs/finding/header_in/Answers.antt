use Rattle.std.proofs.Common.{sym, ◌∙◌}
use Rattle.paw_journal.proofs.Headers.{other_mark, other_version, introduces}
use Rattle.paw_journal.proofs.finding.header_in.Goals as goal

pub returns-then-mark-ne-MADE-clause-refused : goal.returns-then-mark-ne-MADE-clause-refused
returns-then-mark-ne-MADE-clause-refused c whole game rules n b = other_mark c.args.bytes.now whole n b c.if-mark-ne-MADE.true

pub returns-then-not-is_known_version-clause-refused : goal.returns-then-not-is_known_version-clause-refused
returns-then-not-is_known_version-clause-refused c whole game rules n b =
    other_version c.args.bytes.now whole n b c.if-mark-ne-MADE.false
    (sym c.is_known_version.ensures.value ∙ c.if-not-is_known_version.true)

pub returns-clause-introduced : goal.returns-clause-introduced
returns-clause-introduced c whole n b =
    introduces _ _ _ c.args.bytes.now whole n b c.if-mark-ne-MADE.false
    (sym c.is_known_version.ensures.value ∙ c.if-not-is_known_version.false) c.chosen_by.ensures.value
    c.digest_at.ensures.value c.digest_at-2.ensures.value
