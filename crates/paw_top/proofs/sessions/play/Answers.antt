use Rattle.std.proofs.Common.{◌≡◌, ◌∙◌, [], sym, subst, ap}
use Rattle.sha2.specs.Sha256.{sha256}
use Rattle.paw_image.specs.inner.Views.{game_read}
use Rattle.paw_effects.specs.Story.{story_of}
use Rattle.paw_stage.specs.Stage.{Standing}
use Rattle.paw_stage.proofs.Time.{Passes_map}
use Rattle.paw_stage.specs.AcrossCalls.{first_alone}
use Rattle.paw_play.specs.Calls.{session_calls}
use Rattle.paw_play.specs.Keeping.{InNewSession}
use Rattle.paw_play.specs.Play.{NotYet, store_bytes}
use Rattle.paw_play.specs.Played.{session_begun}
use Rattle.paw_play.proofs.Parts.{not_yet, then_two_parts}
use Rattle.paw_top.specs.Ends.{plays}
use Rattle.paw_stage.specs.Loads.{load_calls}
use Rattle.paw_top.proofs.Answering.{played_serves}
use Rattle.paw_journal.proofs.Serving.{in_front, serves_among, serves_still}
use Rattle.paw_play.proofs.ImageFiles.{holds_loaded}
use Rattle.paw_top.proofs.OpenedSessions.{new_parts, plays_new, same_story}
use Rattle.paw_top.proofs.Refusals.{unloaded, undecoded}
use Rattle.paw_top.proofs.sessions.play.Goals as goal

pub play_loop-requires-clause-game : goal.play_loop-requires-clause-game
play_loop-requires-clause-game g c = c.digest-kept.ensures.value ∙ ap sha256 (c.bytes.ensures.value ∙ c.bytes.ensures.image.spelled)

pub returns-in-Err-clause-plays : goal.returns-in-Err-clause-plays
returns-in-Err-clause-plays g c = λ tells X answers. unloaded c.args.image.now _ _ c.in-Err.outcome (c.in-Err.ensures.none tells)

pub returns-in-Err-clause-any_moment : goal.returns-in-Err-clause-any_moment
returns-in-Err-clause-any_moment g c = λ tells s answers holds empty.
    first_alone (Passes_map _ _ _ _ _ _ (c.load.ensures.time tells) (not_yet c.args.store.now (g.S.Stage.standing c.args.stage.now)))

pub returns-in-Err-view_in-clause-plays : goal.returns-in-Err-view_in-clause-plays
returns-in-Err-view_in-clause-plays g c = λ tells X answers.
    undecoded c.args.image.now _ _ _ _ c.in-Err-view_in.outcome c.as_slice.ensures.value (c.in-Ok.ensures.some tells) c.in-Err-view_in.ensures.none

pub returns-in-Err-view_in-clause-any_moment : goal.returns-in-Err-view_in-clause-any_moment
returns-in-Err-view_in-clause-any_moment g c = λ tells s answers holds empty.
    first_alone (Passes_map _ _ _ _ _ _ (c.load.ensures.time tells) (not_yet c.args.store.now (g.S.Stage.standing c.args.stage.now)))

pub returns-clause-plays : goal.returns-clause-plays
returns-clause-plays g c = λ tells X answers.
    let f = c.in-Ok.ensures.some tells in
    let game = game_read c.in-Ok-view_in.given in
    rw c.outcome_of.ensures.value
    (plays game c.play_loop.result (holds_loaded c.args.image.now _ _ _ _ game c.as_slice.ensures.value f c.in-Ok-view_in.ensures.found)
    (plays_new (session_begun (story_of game X) c.args.seed c.args.store.now) _ _ _ c.play_loop.result f.3
    (c.play_loop.ensures.plays (c.load.ensures.serves.tells.0 tells) X answers)))

pub returns-clause-any_moment : goal.returns-clause-any_moment
returns-clause-any_moment g c = λ tells s answers holds empty.
    let f = c.in-Ok.ensures.some tells in
    let old : Standing = g.S.Stage.standing c.args.stage.now in
    let game = game_read c.in-Ok-view_in.given in
    let mine = holds_loaded c.args.image.now _ _ old _ game c.as_slice.ensures.value f c.in-Ok-view_in.ensures.found in
    let same = same_story old c.args.image.now game s mine holds in
    then_two_parts g.S.Stage c.args.stage.now c.load.new.stage c.play_loop.new.stage
    (NotYet c.args.store.now old) (InNewSession (session_begun s c.args.seed c.args.store.now) old)
    (Passes_map _ _ _ _ _ _ (c.load.ensures.time tells) (not_yet c.args.store.now old))
    (new_parts g.S.Stage c.load.new.stage c.play_loop.new.stage s (story_of game s.answers) c.args.seed c.args.store.now old
    (g.S.Stage.standing c.load.new.stage) f.3 same
    (c.play_loop.ensures.any_moment (c.load.ensures.serves.tells.0 tells) s.answers answers (subst (λ q. store_bytes q c.args.store.now ≡ []) (sym f.3) empty)))

pub returns-in-Err-clause-serves : goal.returns-in-Err-clause-serves
returns-in-Err-clause-serves g c = serves_among _ _ _ _ _ _ (in_front load_calls session_calls) c.in-Err.ensures.serves

pub returns-in-Err-view_in-clause-serves : goal.returns-in-Err-view_in-clause-serves
returns-in-Err-view_in-clause-serves g c = serves_still _ _ _ _ _ _ c.in-Err-view_in.ensures.fine c.in-Ok.ensures.serves

pub returns-clause-serves : goal.returns-clause-serves
returns-clause-serves g c =
    played_serves session_calls c.play_loop.result c.outcome_of.result c.outcome_of.ensures.value
    c.in-Ok.ensures.serves c.play_loop.ensures.serves
