use Rattle.paw_play.proofs.Names.{◌≡◌, ◌-◌, ◌≤◌, None, Standing, FailsOnlyBy, AreAnswersOf, story_of, KeptIn, play_calls, PlayedSession, InPlay, DoneWithMoments, IsPlaying, MayTake, StaysSeated}
use Rattle.paw_play.proofs.play.play_lines.Given as goal

-- As many lines were taken as the session says.
abbrev pub invariant-loop : goal.invariant-loop
invariant-loop g l = record {
  stays : StaysSeated l.fn.player l.player;
  may : MayTake g.F.Fn l.session.events l.player;
  events : l.session.events ≡ l.counter;
  from : l.fn.session.events ≤ l.counter;
  serves : FailsOnlyBy g.S.Stage play_calls None l.fn.stage l.stage;
  kept : g.S.Stage.Tells l.fn.stage → KeptIn l.session.journal l.room (g.S.Stage.standing l.stage);
  promises : g.S.Stage.Tells l.fn.stage → (X : _) → AreAnswersOf g.F.Fn l.fn.player.routines X → (s : PlayedSession) (first : Standing) →
      IsPlaying (story_of l.fn.player.game X) s first (g.S.Stage.standing l.fn.stage) l.fn.player l.fn.room.piece 0 → l.fn.session.events ≡ s.before →
      DoneWithMoments g.S.Stage l.fn.stage l.stage
      (IsPlaying (story_of l.fn.player.game X) s first (g.S.Stage.standing l.stage) l.player l.room.piece (l.counter - s.before)) (InPlay s first);
}
