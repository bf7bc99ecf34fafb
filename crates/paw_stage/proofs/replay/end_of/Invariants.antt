use Rattle.paw_stage.proofs.Prefixes.{IsPassed}
use Rattle.paw_stage.proofs.replay.end_of.Given as goal

abbrev pub invariant-loop-k : goal.invariant-loop-k
invariant-loop-k l = IsPassed l.calls l.number l.k l.before
