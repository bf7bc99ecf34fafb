use Rattle.paw_turn.proofs.player.tests.begin_again.Goals as goal

pub start-requires-clause-answers : goal.start-requires-clause-answers
start-requires-clause-answers g c = rw c.renew.ensures.routines c.requires.answers

pub returns-clause-answers : goal.returns-clause-answers
returns-clause-answers g c = rw (c.start.ensures.routines, c.renew.ensures.routines) c.requires.answers
