use Rattle.paw_base.specs.Bytes.{RoutineAnswers}
use Rattle.paw_routines.specs.Routines.{AreAnswersOf}
use Rattle.paw_effects.specs.Story.{story_of}
use Rattle.paw_turn.specs.declared.phase.Next.TheVariants as next
use Rattle.paw_turn.specs.inner.Phases.{Plays, IsPlayable, HasReadSome, StaysInGame, work}
use Rattle.paw_turn.proofs.turn.TurnRules.play.Given as goal

abbrev pub invariant-loop-phase : goal.invariant-loop-phase
invariant-loop-phase g l = record {
  playable : IsPlayable (g.T.Tables.game l.self.tables.now) l.state;
  read : HasReadSome l.state.machine;
  plays : (X : RoutineAnswers) → AreAnswersOf g.F.Fn l.self.routines.now X →
      Plays (story_of (g.T.Tables.game l.self.tables.now) X) l.fn.first l.initial.state (next.Go l.phase) l.state;
  stays : StaysInGame (g.T.Tables.game l.self.tables.now) l.initial.state (next.Go l.phase) l.state;
}

abbrev pub decreases-loop-phase : goal.decreases-loop-phase
decreases-loop-phase g l = work l.phase l.state
