use Rattle.paw_journal.proofs.tests.commits.changes.Goals as goal

pub commit-requires-clause-kept : goal.commit-requires-clause-kept
commit-requires-clause-kept g c = λ tells. c.in-Ok-find.ensures.kept (c.find.ensures.call.serves.tells.1 tells)
