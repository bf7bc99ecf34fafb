use Rattle.paw_play.proofs.Names.{◌≡◌, ◌+◌, ◌*◌, ◌≤◌, None, RoutineAnswers, READ_LIMIT, Standing, FailsOnlyBy, IsSeated, walk_calls, EndingOf, IsWalking, AreAnswersOf, HaveAnswers, story_of}
use Rattle.paw_play.proofs.walk.walk_lines.Given as goal

-- This number of lines was taken.
abbrev pub invariant-loop : goal.invariant-loop
invariant-loop g l = record {
  seated : IsSeated l.player;
  game : l.player.game ≡ l.fn.player.game;
  draws : l.player.world.draws ≤ READ_LIMIT * (l.counter + 1);
  serves : FailsOnlyBy g.S.Stage walk_calls None l.fn.stage l.stage;
  routines : l.player.routines ≡ l.fn.player.routines;
  answers : HaveAnswers g.F.Fn l.player.routines;
  walking : g.S.Stage.Tells l.fn.stage → (X : RoutineAnswers) → AreAnswersOf g.F.Fn l.fn.player.routines X → (whole : EndingOf) (first : Standing) →
      IsWalking g.P.Preface.showing (story_of l.fn.player.game X) whole first (g.S.Stage.standing l.fn.stage) l.fn.player 0 →
      IsWalking g.P.Preface.showing (story_of l.player.game X) whole first (g.S.Stage.standing l.stage) l.player l.counter;
}
