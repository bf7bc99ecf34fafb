use Rattle.std.proofs.Common.{◌∙◌}
use Rattle.paw_journal.proofs.Kept.{drafts_many, drafts_few}
use Rattle.paw_journal.proofs.drafting.draft_changes.Goals as goal

pub returns-then-records-gt-MOST_CHANGES-clause-drafts : goal.returns-then-records-gt-MOST_CHANGES-clause-drafts
returns-then-records-gt-MOST_CHANGES-clause-drafts c =
    drafts_many _ _ _ _ _ _ _ c.add_changes.ensures.made c.from-standing.ensures
    (c.len.ensures ∙ c.add_changes.new.records.ok.0) c.if-records-gt-MOST_CHANGES.true c.draft_base.ensures.bytes
    c.told-state c.draft_base.ensures.value

pub returns-clause-drafts : goal.returns-clause-drafts
returns-clause-drafts c = drafts_few _ _ _ _ _ c.add_changes.ensures.made c.from-standing.ensures
    (c.len.ensures ∙ c.add_changes.new.records.ok.0) c.if-records-gt-MOST_CHANGES.false
