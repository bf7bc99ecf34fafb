use Rattle.paw_journal.proofs.tests.takes_up.Goals as goal

pub goes_on-requires-clause-kept : goal.goes_on-requires-clause-kept
goes_on-requires-clause-kept g c = λ tells. c.in-Ok-find.ensures.kept (c.find.ensures.call.serves.tells.1 tells)
