use Rattle.std.proofs.Common.{◌∙◌, ap}
use Rattle.sha2.specs.Sha256.{sha256}
use Rattle.paw_image.specs.inner.Views.{game_read}
use Rattle.paw_effects.specs.Story.{story_of}
use Rattle.paw_stage.specs.Stage.{Standing}
use Rattle.paw_stage.proofs.Time.{Passes_map}
use Rattle.paw_stage.specs.AcrossCalls.{first_alone}
use Rattle.paw_play.specs.Calls.{session_calls}
use Rattle.paw_play.specs.Keeping.{InPlay}
use Rattle.paw_play.specs.Play.{NotYet}
use Rattle.paw_play.proofs.Parts.{not_yet, then_two_parts}
use Rattle.paw_top.specs.Ends.{plays}
use Rattle.paw_stage.specs.Loads.{load_calls}
use Rattle.paw_top.proofs.Answering.{played_serves}
use Rattle.paw_journal.proofs.Serving.{in_front, serves_among, serves_still}
use Rattle.paw_play.proofs.ImageFiles.{same_game}
use Rattle.paw_play.proofs.ImageFiles.{holds_loaded}
use Rattle.paw_top.proofs.OpenedSessions.{again_parts, plays_again, goes_from, same_story}
use Rattle.paw_top.proofs.OpenedSessions as opened
use Rattle.paw_top.proofs.Refusals.{unloaded, undecoded}
use Rattle.paw_top.proofs.sessions.resume.Goals as goal

pub resume_loop-requires-clause-game : goal.resume_loop-requires-clause-game
resume_loop-requires-clause-game g c = c.digest-kept.ensures.value ∙ ap sha256 (c.bytes.ensures.value ∙ c.bytes.ensures.image.spelled)

pub returns-in-Err-clause-plays : goal.returns-in-Err-clause-plays
returns-in-Err-clause-plays g c = λ tells X answers. unloaded c.args.image.now _ _ c.in-Err.outcome (c.in-Err.ensures.none tells)

pub returns-in-Err-clause-goes_on : goal.returns-in-Err-clause-goes_on
returns-in-Err-clause-goes_on g c = λ tells k s answers holds goes.
    unloaded c.args.image.now _ _ c.in-Err.outcome (c.in-Err.ensures.none tells)

pub returns-in-Err-clause-any_moment : goal.returns-in-Err-clause-any_moment
returns-in-Err-clause-any_moment g c = λ tells k s answers holds goes.
    first_alone (Passes_map _ _ _ _ _ _ (c.load.ensures.time tells) (not_yet c.args.store.now (g.S.Stage.standing c.args.stage.now)))

pub returns-in-Err-view_in-clause-plays : goal.returns-in-Err-view_in-clause-plays
returns-in-Err-view_in-clause-plays g c = λ tells X answers.
    undecoded c.args.image.now _ _ _ _ c.in-Err-view_in.outcome c.as_slice.ensures.value (c.in-Ok.ensures.some tells) c.in-Err-view_in.ensures.none

pub returns-in-Err-view_in-clause-goes_on : goal.returns-in-Err-view_in-clause-goes_on
returns-in-Err-view_in-clause-goes_on g c = λ tells k s answers holds goes.
    undecoded c.args.image.now _ _ _ _ c.in-Err-view_in.outcome c.as_slice.ensures.value (c.in-Ok.ensures.some tells) c.in-Err-view_in.ensures.none

pub returns-in-Err-view_in-clause-any_moment : goal.returns-in-Err-view_in-clause-any_moment
returns-in-Err-view_in-clause-any_moment g c = λ tells k s answers holds goes.
    first_alone (Passes_map _ _ _ _ _ _ (c.load.ensures.time tells) (not_yet c.args.store.now (g.S.Stage.standing c.args.stage.now)))

pub returns-clause-plays : goal.returns-clause-plays
returns-clause-plays g c = λ tells X answers.
    let f = c.in-Ok.ensures.some tells in
    let game = game_read c.in-Ok-view_in.given in
    rw c.outcome_of.ensures.value
    (plays game c.resume_loop.result (holds_loaded c.args.image.now _ _ _ _ game c.as_slice.ensures.value f c.in-Ok-view_in.ensures.found)
    (plays_again (story_of game X) c.args.store.now _ _ _ c.resume_loop.result f.3
    (c.resume_loop.ensures.plays (c.load.ensures.serves.tells.0 tells) X answers)))

pub returns-clause-goes_on : goal.returns-clause-goes_on
returns-clause-goes_on g c = λ tells k s answers holds goes.
    let f = c.in-Ok.ensures.some tells in
    let old : Standing = g.S.Stage.standing c.args.stage.now in
    let mid : Standing = g.S.Stage.standing c.load.new.stage in
    let game = game_read c.in-Ok-view_in.given in
    let mine = holds_loaded c.args.image.now _ _ old _ game c.as_slice.ensures.value f c.in-Ok-view_in.ensures.found in
    rw c.outcome_of.ensures.value
    (plays game c.resume_loop.result mine (
      same_game old c.args.image.now game k.game mine holds,
      opened.goes_on s old mid (g.S.Stage.standing c.resume_loop.new.stage) c.resume_loop.result f.3
          (c.resume_loop.ensures.goes_on (c.load.ensures.serves.tells.0 tells) k.answers answers s
          (goes_from k (story_of game k.answers) s c.args.store.now old mid f.3 (same_story old c.args.image.now game k mine holds) goes)),
    ))

pub returns-clause-any_moment : goal.returns-clause-any_moment
returns-clause-any_moment g c = λ tells k s answers holds goes.
    let f = c.in-Ok.ensures.some tells in
    let old : Standing = g.S.Stage.standing c.args.stage.now in
    let mid : Standing = g.S.Stage.standing c.load.new.stage in
    let game = game_read c.in-Ok-view_in.given in
    let mine = holds_loaded c.args.image.now _ _ old _ game c.as_slice.ensures.value f c.in-Ok-view_in.ensures.found in
    then_two_parts g.S.Stage c.args.stage.now c.load.new.stage c.resume_loop.new.stage (NotYet c.args.store.now old) (InPlay s old)
    (Passes_map _ _ _ _ _ _ (c.load.ensures.time tells) (not_yet c.args.store.now old))
    (again_parts g.S.Stage c.load.new.stage c.resume_loop.new.stage s c.args.store.now old mid f.3
    (c.resume_loop.ensures.any_moment (c.load.ensures.serves.tells.0 tells) k.answers answers s
    (goes_from k (story_of game k.answers) s c.args.store.now old mid f.3 (same_story old c.args.image.now game k mine holds) goes)))

pub returns-in-Err-clause-serves : goal.returns-in-Err-clause-serves
returns-in-Err-clause-serves g c = serves_among _ _ _ _ _ _ (in_front load_calls session_calls) c.in-Err.ensures.serves

pub returns-in-Err-view_in-clause-serves : goal.returns-in-Err-view_in-clause-serves
returns-in-Err-view_in-clause-serves g c = serves_still _ _ _ _ _ _ c.in-Err-view_in.ensures.fine c.in-Ok.ensures.serves

pub returns-clause-serves : goal.returns-clause-serves
returns-clause-serves g c =
    played_serves session_calls c.resume_loop.result c.outcome_of.result c.outcome_of.ensures.value
    c.in-Ok.ensures.serves c.resume_loop.ensures.serves
