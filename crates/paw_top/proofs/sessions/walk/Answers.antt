use Rattle.std.proofs.Common.{subst}
use Rattle.paw_base.specs.declared.limits.TheConstants.{EVENT_LIMIT}
use Rattle.paw_image.specs.inner.Views.{game_read}
use Rattle.paw_effects.specs.Story.{story_of}
use Rattle.paw_reading.specs.Turn.{reading}
use Rattle.paw_play.specs.Calls.{walk_calls}
use Rattle.paw_play.specs.Walk.{Walks}
use Rattle.paw_play.specs.inner.ShowSteps.{with_shown_steps}
use Rattle.paw_top.specs.Ends.{plays}
use Rattle.paw_stage.specs.Loads.{load_calls}
use Rattle.paw_top.proofs.Answering.{played_serves}
use Rattle.paw_journal.proofs.Serving.{in_front, serves_among, serves_still}
use Rattle.paw_play.proofs.ImageFiles.{holds_loaded}
use Rattle.paw_top.proofs.Refusals.{unloaded, undecoded}
use Rattle.paw_top.proofs.sessions.walk.Goals as goal

pub returns-in-Err-clause-walks : goal.returns-in-Err-clause-walks
returns-in-Err-clause-walks g c = λ tells X answers. unloaded c.args.image.now _ _ c.in-Err.outcome (c.in-Err.ensures.none tells)

pub returns-in-Err-view_in-clause-walks : goal.returns-in-Err-view_in-clause-walks
returns-in-Err-view_in-clause-walks g c = λ tells X answers.
    undecoded c.args.image.now _ _ _ _ c.in-Err-view_in.outcome c.as_slice.ensures.value (c.in-Ok.ensures.some tells) c.in-Err-view_in.ensures.none

pub returns-clause-walks : goal.returns-clause-walks
returns-clause-walks g c = λ tells X answers.
    let new = g.S.Stage.standing c.walk_loop.new.stage in
    let f = c.in-Ok.ensures.some tells in
    let game = game_read c.in-Ok-view_in.given in
    rw c.outcome_of.ensures.value
    (plays game c.walk_loop.result (holds_loaded c.args.image.now _ _ _ _ game c.as_slice.ensures.value f c.in-Ok-view_in.ensures.found)
    (subst (λ s. Walks (with_shown_steps g.P.Preface.showing (reading (story_of game X) c.args.seed)) EVENT_LIMIT s new c.walk_loop.result) f.3
    (c.walk_loop.ensures.walks (c.load.ensures.serves.tells.0 tells) X answers)))

pub returns-in-Err-clause-serves : goal.returns-in-Err-clause-serves
returns-in-Err-clause-serves g c = serves_among _ _ _ _ _ _ (in_front load_calls walk_calls) c.in-Err.ensures.serves

pub returns-in-Err-view_in-clause-serves : goal.returns-in-Err-view_in-clause-serves
returns-in-Err-view_in-clause-serves g c = serves_still _ _ _ _ _ _ c.in-Err-view_in.ensures.fine c.in-Ok.ensures.serves

pub returns-clause-serves : goal.returns-clause-serves
returns-clause-serves g c =
    played_serves walk_calls c.walk_loop.result c.outcome_of.result c.outcome_of.ensures.value
    c.in-Ok.ensures.serves c.walk_loop.ensures.serves
