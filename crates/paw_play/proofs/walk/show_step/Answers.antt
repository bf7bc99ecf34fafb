use Rattle.paw_play.proofs.Names.{serves_none}
use Rattle.paw_play.proofs.walk.show_step.Goals as goal

pub returns-in-Some-clause-serves : goal.returns-in-Some-clause-serves
returns-in-Some-clause-serves g c = rw c.in-Some.ensures.fine (serves_none g.S.Stage _ _)
