use Rattle.paw_play.proofs.Names.{◌≡◌, ◌+◌, ◌-◌, ◌∙◌, suc, arith, subst, sym, refl, None, AreAnswersOf, story_of, serves_none, serves_then, call_of_end, IsPlaying}
use Rattle.paw_play.proofs.Doing.{done_none, done_then}
use Rattle.paw_play.proofs.play.play_lines.Goals as goal

pub loop-init : goal.loop-init
loop-init g c = record {
  stays = record { seated = c.requires.may.seated; game = refl; routines = refl };
  may = c.requires.may;
  events = refl;
  from = omega arith;
  serves = serves_none g.S.Stage _ _;
  kept = c.requires.kept;
  promises = λ tells X answers s first start events.
      let none : 0 ≡ c.args.session.events - s.before = omega (arith, events) in
      done_none (subst (IsPlaying (story_of c.args.player.now.game X) s first (g.S.Stage.standing c.args.stage.now) c.args.player.now
      c.args.room.now.piece) none start);
}

pub play_line-requires-clause-kept : goal.play_line-requires-clause-kept
play_line-requires-clause-kept g c = λ tells. c.loop.invariant.kept (c.loop.invariant.serves.tells.1 tells)

pub returns-in-Err-clause-promises : goal.returns-in-Err-clause-promises
returns-in-Err-clause-promises g c = λ tells X answers s first start events.
    let i = c.loop.invariant in
    let at : c.loop.session.events ≡ s.before + (c.loop.counter - s.before) = omega (arith, i.events, i.from, events) in
    let so_far = i.promises tells X answers s first start events in
    let then = c.in-Err.ensures.promises (i.serves.tells.0 tells) X (subst (λ r. AreAnswersOf g.F.Fn r X) (sym i.stays.routines) answers)
    s (c.loop.counter - s.before) first
    (subst (λ k. IsPlaying (story_of k X) s first (g.S.Stage.standing c.loop.stage) c.loop.player c.loop.room.piece (c.loop.counter - s.before))
    (sym i.stays.game) so_far.meaning) at in
    done_then _ then.meaning so_far.any_moment then.any_moment (λ m j. j)

pub loop-preserved : goal.loop-preserved
loop-preserved g c =
    let i = c.loop.invariant in
    record {
      stays = record {
        seated = c.play_line.ensures.stays.seated;
        game = c.play_line.ensures.stays.game ∙ i.stays.game;
        routines = c.play_line.ensures.stays.routines ∙ i.stays.routines;
      };
      may = c.in-Ok.ensures.may;
      events = c.in-Ok.ensures.holds.events ∙ omega (arith, i.events);
      from = omega (arith, i.from);
      serves = serves_then g.S.Stage _ _ None _ _ _ i.serves c.in-Ok.ensures.serves;
      kept = λ tells. c.in-Ok.ensures.holds.kept (i.serves.tells.0 tells);
      promises = λ tells X answers s first start events.
          let at : c.loop.session.events ≡ s.before + (c.loop.counter - s.before) = omega (arith, i.events, i.from, events) in
          let more : suc (c.loop.counter - s.before) ≡ c.loop.counter + 1 - s.before = omega (arith, i.from, events) in
          let so_far = i.promises tells X answers s first start events in
          let then = c.in-Ok.ensures.promises (i.serves.tells.0 tells) X (subst (λ r. AreAnswersOf g.F.Fn r X) (sym i.stays.routines) answers)
          s (c.loop.counter - s.before) first
          (subst (λ k. IsPlaying (story_of k X) s first (g.S.Stage.standing c.loop.stage) c.loop.player c.loop.room.piece (c.loop.counter - s.before))
          (sym i.stays.game) so_far.meaning) at in
          done_then _ (subst (λ k. IsPlaying (story_of k X) s first (g.S.Stage.standing c.play_line.new.stage) c.play_line.new.player
          c.play_line.new.room.piece (c.loop.counter + 1 - s.before)) i.stays.game
          (subst (IsPlaying (story_of c.loop.player.game X) s first (g.S.Stage.standing c.play_line.new.stage) c.play_line.new.player
          c.play_line.new.room.piece) more then.meaning)) so_far.any_moment then.any_moment (λ m j. j);
    }

pub returns-clause-promises : goal.returns-clause-promises
returns-clause-promises g c = absurd (omega (arith, c.loop.invariant.may.few, c.loop.invariant.events, c.loop-test.false))

pub returns-in-Err-clause-serves : goal.returns-in-Err-clause-serves
returns-in-Err-clause-serves g c = serves_then g.S.Stage _ _ (call_of_end c.in-Err.end) _ _ _ c.loop.invariant.serves c.in-Err.ensures.serves
