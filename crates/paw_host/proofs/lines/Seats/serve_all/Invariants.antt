use Rattle.paw_host.proofs.Cited.{◌≤◌, None, RoutineAnswers, IsStable, FailsOnlyBy, AreAnswersOf, story_of, session_calls, DoneWithMoments, Sessions, HasTaken, BeginsWith, InHost, IsServing, StaysSeated, HOST_LIMIT}
use Rattle.paw_host.proofs.lines.Seats.serve_all.Given as goal

-- i lines were answered.
abbrev pub invariant-loop : goal.invariant-loop
invariant-loop g l = record {
  stays : StaysSeated l.fn.self.player l.self.player;
  few : l.counter ≤ HOST_LIMIT;
  serves : FailsOnlyBy g.S.Stage session_calls None l.fn.stage l.stage;
  synced : g.S.Stage.Tells l.stage → IsStable (g.S.Stage.standing l.stage).disk;
  taken : g.S.Stage.Tells l.fn.stage → HasTaken (g.S.Stage.standing l.fn.stage) (g.S.Stage.standing l.stage) l.counter;
  promises : g.S.Stage.Tells l.fn.stage → (X : RoutineAnswers) → AreAnswersOf g.F.Fn l.fn.self.player.routines X → (first : Sessions) →
      BeginsWith (story_of l.fn.self.player.game X) first (g.S.Stage.standing l.fn.stage) →
      DoneWithMoments g.S.Stage l.fn.stage l.stage
      (IsServing (story_of l.fn.self.player.game X) l.fn.hosted.seed first (g.S.Stage.standing l.fn.stage) (g.S.Stage.standing l.stage) l.counter)
      (InHost (story_of l.fn.self.player.game X) l.fn.hosted.seed first (g.S.Stage.standing l.fn.stage));
}
