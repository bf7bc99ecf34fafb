use Rattle.std.proofs.Common.{◌≡◌, [], arith, sym, subst, ap, ◌∙◌}
use Rattle.sha2.specs.Sha256.{sha256}
use Rattle.paw_game.specs.Image.{image}
use Rattle.paw_stage.specs.inner.Memory.{standing_of}
use Rattle.paw_effects.specs.Story.{story_of}
use Rattle.paw_play.specs.Played.{session_begun}
use Rattle.paw_play.specs.Play.{NewSession, PlaysAgain}
use Rattle.paw_trial.specs.inner.Session.{PlaysHalf, trial_store}
use Rattle.paw_trial.proofs.halves.play_lines.Goals as goal

pub play_loop-requires-clause-answers : goal.play_loop-requires-clause-answers
play_loop-requires-clause-answers g c = ([], c.requires.answers)

pub play_loop-requires-clause-game : goal.play_loop-requires-clause-game
play_loop-requires-clause-game g c = c.digest-digest.ensures.digest ∙ ap (λ g. sha256 (image g)) (sym c.game-game.ensures.value)

pub resume_loop-requires-clause-answers : goal.resume_loop-requires-clause-answers
resume_loop-requires-clause-answers g c = ([], c.requires.answers)

pub resume_loop-requires-clause-game : goal.resume_loop-requires-clause-game
resume_loop-requires-clause-game g c = c.digest-digest.ensures.digest ∙ ap (λ g. sha256 (image g)) (sym c.game-game.ensures.value)

pub returns-in-First : goal.returns-in-First
returns-in-First g c = record {
  plays =
      let n = c.args.setting.now in
      let old = standing_of c.args.stage.now in
      let new = standing_of c.play_loop.new.stage in
      let seed : c.from-seed.result ≡ n = omega arith in
      subst (λ h. PlaysHalf h n old new c.play_loop.result) (sym c.in-First.is)
      (subst (λ g. NewSession (session_begun (story_of g []) n trial_store) old new c.play_loop.result) c.game-game.ensures.value
      (subst (λ s. NewSession (session_begun (story_of c.game-game.result.now []) s trial_store) old new c.play_loop.result) seed
      (c.play_loop.ensures.plays tt [] c.requires.answers)));
}

pub returns-in-Second : goal.returns-in-Second
returns-in-Second g c = record {
  plays =
      let n = c.args.setting.now in
      let old = standing_of c.args.stage.now in
      let new = standing_of c.resume_loop.new.stage in
      subst (λ h. PlaysHalf h n old new c.resume_loop.result) (sym c.in-Second.is)
      (subst (λ g. PlaysAgain (story_of g []) trial_store old new c.resume_loop.result)
      c.game-game.ensures.value (c.resume_loop.ensures.plays tt [] c.requires.answers));
}
