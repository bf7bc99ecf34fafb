use Rattle.std.specs.Prelude.{IsSome}
use Rattle.paw_stage.specs.inner.Memory.{standing_of}
use Rattle.paw_journal.proofs.tests.stages.memory.answers.Given as goal

abbrev pub invariant-loop-at : goal.invariant-loop-at
invariant-loop-at g l = record { attached : IsSome (standing_of l.stage).attached }
