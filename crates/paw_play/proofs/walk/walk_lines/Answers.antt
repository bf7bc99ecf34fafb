use Rattle.paw_play.proofs.Names.{◌≡◌, ◌+◌, ◌<◌, ◌∙◌, suc, arith, None, subst, EVENT_LIMIT, serves_then, call_of_end, story_of, IsWalking}
use Rattle.paw_play.proofs.Walking.{long_walk}
use Rattle.paw_play.proofs.walk.walk_lines.Goals as goal

pub returns-in-Some-clause-meaning : goal.returns-in-Some-clause-meaning
returns-in-Some-clause-meaning g c = λ tells X answers whole first start.
    let w = c.loop.invariant.walking tells X answers whole first start in
    let few : c.loop.counter < EVENT_LIMIT = omega (arith, c.loop-test.true) in
    c.in-Some.ensures.meaning (c.loop.invariant.serves.tells.0 tells) X (rw c.loop.invariant.routines answers) whole EVENT_LIMIT c.loop.counter first w few

pub loop-preserved : goal.loop-preserved
loop-preserved g c =
    record {
      seated = c.walk_line.ensures.player.seated;
      game = c.walk_line.ensures.player.game ∙ c.loop.invariant.game;
      routines = c.walk_line.ensures.player.routines ∙ c.loop.invariant.routines;
      answers = rw c.walk_line.ensures.player.routines c.loop.invariant.answers;
      draws = omega (arith, c.walk_line.ensures.player.drew, c.loop.invariant.draws);
      serves = serves_then g.S.Stage _ _ None _ _ _ c.loop.invariant.serves c.in_default.ensures.serves;
      walking = λ tells X answers whole first start.
          let w = c.loop.invariant.walking tells X answers whole first start in
          let few : c.loop.counter < EVENT_LIMIT = omega (arith, c.loop-test.true) in
          let on = rw (← c.walk_line.ensures.player.game) at (c.in_default.ensures.meaning (c.loop.invariant.serves.tells.0 tells) X
          (rw c.loop.invariant.routines answers) whole EVENT_LIMIT c.loop.counter first w few) in
          let n : suc c.loop.counter ≡ c.loop.counter + 1 = omega arith in
          subst (IsWalking g.P.Preface.showing (story_of c.walk_line.new.player.game X) whole first (g.S.Stage.standing c.walk_line.new.stage)
          c.walk_line.new.player) n on;
    }

pub returns-clause-meaning : goal.returns-clause-meaning
returns-clause-meaning g c = λ tells X answers whole first start.
    let all : c.loop.counter ≡ EVENT_LIMIT = omega (arith, c.loop-test.false, c.loop.auto.counter-end) in
    long_walk (c.loop.invariant.walking tells X answers whole first start) c.loop.invariant.seated EVENT_LIMIT all

pub returns-in-Some-clause-serves : goal.returns-in-Some-clause-serves
returns-in-Some-clause-serves g c = serves_then g.S.Stage _ _ (call_of_end c.in-Some.end) _ _ _ c.loop.invariant.serves c.in-Some.ensures.serves
