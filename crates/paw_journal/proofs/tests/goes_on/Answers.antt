use Rattle.paw_journal.proofs.tests.goes_on.Goals as goal

pub loop-turn-init : goal.loop-turn-init
loop-turn-init g c = record { kept = c.requires.kept }

pub loop-turn-preserved : goal.loop-turn-preserved
loop-turn-preserved g c = record { kept = λ tells. c.in-Ok.ensures.kept (c.takes.ensures.tells.1 tells) }
