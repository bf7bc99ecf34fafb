use Rattle.paw_journal.specs.inner.Journal.{KeptIn}
use Rattle.paw_journal.proofs.tests.goes_on.Given as goal

abbrev pub invariant-loop-turn : goal.invariant-loop-turn
invariant-loop-turn g l = record { kept : g.S.Stage.Tells l.stage → KeptIn l.journal l.room (g.S.Stage.standing l.stage) }
