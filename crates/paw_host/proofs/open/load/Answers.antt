use Rattle.paw_host.proofs.open.load.Goals as goal

pub returns-in-Ok-clause-some : goal.returns-in-Ok-clause-some
returns-in-Ok-clause-some g c = λ tells. let a = c.in-Ok.ensures.answer tells in (a.0, a.1, a.2, c.load.ensures.still tells)
