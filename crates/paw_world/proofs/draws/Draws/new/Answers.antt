use Rattle.paw_world.proofs.DrawnOn.{no_words}
use Rattle.paw_world.proofs.draws.Draws.new.Goals as goal

pub invariant_of-result : goal.invariant_of-result
invariant_of-result c = no_words c.args.seed c.new.result c.new.ensures
