use Rattle.paw_journal.proofs.Kept.{drafts_whole_as}
use Rattle.paw_journal.proofs.drafting.draft_over.Goals as goal

pub returns-in-None-clause-drafts : goal.returns-in-None-clause-drafts
returns-in-None-clause-drafts c = drafts_whole_as _ _ _ _ c.draft_base.ensures.bytes c.told-state c.in-None.is c.draft_base.ensures.value
