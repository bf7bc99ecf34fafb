use Rattle.paw_play.proofs.Names.{◌<◌, ◌∙◌, [], ◌∷◌, None, refl, sym, ap, subst, length, arith, Passes_map, Standing, PlayedSession, session_begun, InNewSession, unattached, occupied, starts_play, IsRestingStore, behind, in_front, serves_among, serves_still, serves_then, the_only_one, play_calls, call_of_end, story_of}
use Rattle.paw_play.proofs.{Attaching.store_attached, Attaching.store_empty, Attaching.at_new_attach, Attaching.new_from, Failing.stands_in_parts, Parts.then_attached, Parts.attach_failed}
use Rattle.paw_stage.specs.declared.StageCall.TheVariants as call
use Rattle.paw_play.proofs.play.play_loop.Goals as goal

pub returns-in-Err-clause-plays : goal.returns-in-Err-clause-plays
returns-in-Err-clause-plays g c = λ tells X answers.
    rw (the_only_one c.in-Err.call call.Attach c.in-Err.ensures.serves.among) (unattached (c.in-Err.ensures.left tells))

pub returns-then-at-ne0-clause-plays : goal.returns-then-at-ne0-clause-plays
returns-then-at-ne0-clause-plays g c = λ tells X answers.
    let a = c.in-Ok.ensures.attached tells in
    rw a.0 (occupied (subst (λ n. 0 < n) a.0 (omega (arith, c.if-at-ne0.true))) a.1)

pub play_in-requires-clause-attached : goal.play_in-requires-clause-attached
play_in-requires-clause-attached g c = λ tells.
    let before = c.attach.ensures.serves.tells.1 tells in record { rests = c.in-Ok.ensures.rests before; long = c.in-Ok.ensures.length before }

pub returns-clause-plays : goal.returns-clause-plays
returns-clause-plays g c = λ tells X answers.
    let name = c.args.name.now in
    let a = c.in-Ok.ensures.attached tells in
    let store = subst (IsRestingStore name) (sym a.1) (store_attached (g.S.Stage.standing c.args.stage.now) name) in
    starts_play c.play_in.result (store_empty (g.S.Stage.standing c.args.stage.now) _ name c.in-Ok.at.length a (omega (arith, c.if-at-ne0.false)))
    (rw a.1 at ((c.play_in.ensures.promises (c.attach.ensures.serves.tells.0 tells) X answers name store).meaning))

pub returns-in-Err-clause-any_moment : goal.returns-in-Err-clause-any_moment
returns-in-Err-clause-any_moment g c = λ tells X answers empty.
    attach_failed g.S.Stage c.args.stage.now c.attach.new.stage c.args.name.now _ (c.in-Err.ensures.left tells) (c.attach.ensures.time tells)

pub returns-then-at-ne0-clause-any_moment : goal.returns-then-at-ne0-clause-any_moment
returns-then-at-ne0-clause-any_moment g c = λ tells X answers empty.
    let a = c.in-Ok.ensures.attached tells in
    absurd (omega (arith, c.if-at-ne0.true, a.0 ∙ ap length empty))

pub returns-clause-any_moment : goal.returns-clause-any_moment
returns-clause-any_moment g c = λ tells X answers empty.
    let old : Standing = g.S.Stage.standing c.args.stage.now in
    let name = c.args.name.now in
    let a = c.in-Ok.ensures.attached tells in
    let now = c.attach.ensures.serves.tells.0 tells in
    let s : PlayedSession = session_begun (story_of (g.T.Tables.game c.args.tables.now) X) c.args.seed name in
    let store = subst (IsRestingStore name) (sym a.1) (store_attached old name) in
    then_attached g.S.Stage g.met.S.Stage.only_now g.met.S.Stage.counts_now _ _ _ name (InNewSession s old) now (at_new_attach s old _ a.1 empty)
    (c.in-Ok.ensures.time tells) (Passes_map _ _ _ _ _ _ (c.play_in.ensures.promises now X answers name store).any_moment
    (λ m i. new_from s old m (subst (λ q. InNewSession s q m) a.1 i)))

-- ---- what stands at the end ----

pub returns-in-Err-clause-stands : goal.returns-in-Err-clause-stands
returns-in-Err-clause-stands g c = λ tells X answers empty.
    stands_in_parts g.S.Stage g.met.S.Stage.only_now g.met.S.Stage.counts_now g.met.S.Stage.may_stay g.met.S.Stage.files_hold _ _ c.args.name.now _ tells
    (c.attach.ensures.serves.tells.0 tells) (returns-in-Err-clause-any_moment g c tells X answers empty)

pub returns-then-at-ne0-clause-stands : goal.returns-then-at-ne0-clause-stands
returns-then-at-ne0-clause-stands g c = λ tells X answers empty.
    stands_in_parts g.S.Stage g.met.S.Stage.only_now g.met.S.Stage.counts_now g.met.S.Stage.may_stay g.met.S.Stage.files_hold _ _ c.args.name.now _ tells
    (c.attach.ensures.serves.tells.0 tells) (returns-then-at-ne0-clause-any_moment g c tells X answers empty)

pub returns-clause-stands : goal.returns-clause-stands
returns-clause-stands g c = λ tells X answers empty.
    stands_in_parts g.S.Stage g.met.S.Stage.only_now g.met.S.Stage.counts_now g.met.S.Stage.may_stay g.met.S.Stage.files_hold _ _ c.args.name.now _ tells
    (c.play_in.ensures.serves.tells.0 (c.attach.ensures.serves.tells.0 tells)) (returns-clause-any_moment g c tells X answers empty)

pub returns-in-Err-clause-serves : goal.returns-in-Err-clause-serves
returns-in-Err-clause-serves g c =
    serves_among g.S.Stage _ _ _ _ _ (in_front (call.Attach ∷ []) (call.Read ∷ play_calls)) c.in-Err.ensures.serves

pub returns-then-at-ne0-clause-serves : goal.returns-then-at-ne0-clause-serves
returns-then-at-ne0-clause-serves g c = serves_still g.S.Stage _ _ None _ _ refl c.in-Ok.ensures.serves

pub returns-clause-serves : goal.returns-clause-serves
returns-clause-serves g c =
    serves_then g.S.Stage _ _ (call_of_end c.play_in.result) _ _ _ c.in-Ok.ensures.serves
    (serves_among g.S.Stage _ _ (call_of_end c.play_in.result) _ _ (behind (call.Attach ∷ call.Read ∷ []) play_calls) c.play_in.ensures.serves)
