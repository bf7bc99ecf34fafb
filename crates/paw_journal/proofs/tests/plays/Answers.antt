use Rattle.paw_journal.proofs.tests.plays.Goals as goal

pub goes_on-requires-clause-kept : goal.goes_on-requires-clause-kept
goes_on-requires-clause-kept g c = λ tells. c.in-Ok-create.ensures.kept (c.create.ensures.call.serves.tells.1 tells)
