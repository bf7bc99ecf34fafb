use Rattle.paw_journal.proofs.tests.sessions.Goals as goal

pub commit-requires-clause-kept : goal.commit-requires-clause-kept
commit-requires-clause-kept g c = λ tells. c.in-Ok-create.ensures.kept (c.create.ensures.call.serves.tells.1 tells)

pub commit-requires-2-clause-kept : goal.commit-requires-2-clause-kept
commit-requires-2-clause-kept g c = λ tells. c.in-Ok-commit.ensures.kept (c.commit.ensures.call.serves.tells.1 tells)
