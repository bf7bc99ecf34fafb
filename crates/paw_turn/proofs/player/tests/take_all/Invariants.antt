use Rattle.paw_routines.specs.Routines.{HaveAnswers}
use Rattle.paw_turn.specs.inner.Player.{IsSeated}
use Rattle.paw_turn.proofs.player.tests.take_all.Given as goal

abbrev pub invariant-loop-line : goal.invariant-loop-line
invariant-loop-line g l = record { answers : HaveAnswers g.F.Fn l.player.routines; seated : IsSeated l.player }
