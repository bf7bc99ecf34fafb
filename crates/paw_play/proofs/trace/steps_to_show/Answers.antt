use Rattle.paw_play.proofs.Names.{take_min, STEP_LIMIT}
use Rattle.paw_play.proofs.trace.steps_to_show.Goals as goal

pub returns-clause-value : goal.returns-clause-value
returns-clause-value c = rw c.min.ensures (take_min STEP_LIMIT c.args.steps.now)
