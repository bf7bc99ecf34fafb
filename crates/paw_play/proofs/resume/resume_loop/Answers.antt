use Rattle.paw_play.proofs.Names.{[], ◌∷◌, refl, Story, story_of, in_front, serves_among, serves_then, the_only_one, play_calls, unattached, call_of_end}
use Rattle.paw_stage.specs.declared.StageCall.TheVariants as call
use Rattle.paw_play.proofs.{Again.in_search, Failing.stands_in_parts, Parts.attach_failed, Parts.then_attached, Standing.again_goes_on}
use Rattle.paw_play.proofs.resume.resume_loop.Goals as goal

pub resume_in-requires-clause-attached : goal.resume_in-requires-clause-attached
resume_in-requires-clause-attached g c = λ tells.
    let before = c.attach.ensures.serves.tells.1 tells in record { rests = c.in-Ok.ensures.rests before; long = c.in-Ok.ensures.length before }

pub returns-in-Err-clause-plays : goal.returns-in-Err-clause-plays
returns-in-Err-clause-plays g c = λ tells X answers.
    rw (the_only_one c.in-Err.call call.Attach c.in-Err.ensures.serves.among) (unattached (c.in-Err.ensures.left tells))

pub returns-clause-plays : goal.returns-clause-plays
returns-clause-plays g c = λ tells X answers.
    (c.resume_in.ensures.promises (c.attach.ensures.serves.tells.0 tells) X answers (g.S.Stage.standing c.args.stage.now) c.args.name.now
    (c.in-Ok.ensures.attached tells).1).0

pub returns-in-Err-clause-goes_on : goal.returns-in-Err-clause-goes_on
returns-in-Err-clause-goes_on g c = λ tells X answers s from.
    again_goes_on (story_of (g.T.Tables.game c.args.tables.now) X) c.args.name.now (g.S.Stage.standing c.args.stage.now) _ s
    c.counts-counts.ensures.valid from _ (returns-in-Err-clause-plays g c tells X answers)

pub returns-clause-goes_on : goal.returns-clause-goes_on
returns-clause-goes_on g c = λ tells X answers s from.
    again_goes_on (story_of (g.T.Tables.game c.args.tables.now) X) c.args.name.now (g.S.Stage.standing c.args.stage.now) _ s
    c.counts-counts.ensures.valid from _ (returns-clause-plays g c tells X answers)

pub returns-in-Err-clause-any_moment : goal.returns-in-Err-clause-any_moment
returns-in-Err-clause-any_moment g c = λ tells X answers s from.
    attach_failed g.S.Stage c.args.stage.now c.attach.new.stage c.args.name.now _ (c.in-Err.ensures.left tells) (c.attach.ensures.time tells)

pub returns-clause-any_moment : goal.returns-clause-any_moment
returns-clause-any_moment g c = λ tells X answers s from.
    let story : Story = story_of (g.T.Tables.game c.args.tables.now) X in
    let name = c.args.name.now in
    let now = c.attach.ensures.serves.tells.0 tells in
    let is = (c.in-Ok.ensures.attached tells).1 in
    then_attached g.S.Stage g.met.S.Stage.only_now g.met.S.Stage.counts_now _ _ _ name _ now
    (in_search story name _ _ s c.counts-counts.ensures.valid from is _ refl) (c.in-Ok.ensures.time tells)
    ((c.resume_in.ensures.promises now X answers _ name is).1 s from)

-- ---- what stands at the end ----

pub returns-in-Err-clause-stands : goal.returns-in-Err-clause-stands
returns-in-Err-clause-stands g c = λ tells X answers s from.
    stands_in_parts g.S.Stage g.met.S.Stage.only_now g.met.S.Stage.counts_now g.met.S.Stage.may_stay g.met.S.Stage.files_hold _ _ c.args.name.now _ tells
    (c.attach.ensures.serves.tells.0 tells) (returns-in-Err-clause-any_moment g c tells X answers s from)

pub returns-clause-stands : goal.returns-clause-stands
returns-clause-stands g c = λ tells X answers s from.
    stands_in_parts g.S.Stage g.met.S.Stage.only_now g.met.S.Stage.counts_now g.met.S.Stage.may_stay g.met.S.Stage.files_hold _ _ c.args.name.now _ tells
    (c.resume_in.ensures.serves.tells.0 (c.attach.ensures.serves.tells.0 tells)) (returns-clause-any_moment g c tells X answers s from)

pub returns-in-Err-clause-serves : goal.returns-in-Err-clause-serves
returns-in-Err-clause-serves g c =
    serves_among g.S.Stage _ _ _ _ _ (in_front (call.Attach ∷ []) (call.Read ∷ play_calls)) c.in-Err.ensures.serves

pub returns-clause-serves : goal.returns-clause-serves
returns-clause-serves g c = serves_then g.S.Stage _ _ (call_of_end c.resume_in.result) _ _ _ c.in-Ok.ensures.serves c.resume_in.ensures.serves
