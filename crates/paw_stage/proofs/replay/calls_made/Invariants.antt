use Rattle.paw_stage.proofs.Prefixes.{IsCounted}
use Rattle.paw_stage.proofs.replay.calls_made.Given as goal

abbrev pub invariant-loop-k : goal.invariant-loop-k
invariant-loop-k l = IsCounted l.calls l.k l.made
