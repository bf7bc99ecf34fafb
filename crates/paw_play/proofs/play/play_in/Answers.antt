use Rattle.paw_play.proofs.Names.{OpenSession, writing_calls, ◌∙◌, inl, inr, refl, sym, ap, subst, arith, AreAnswersOf, Standing, Passes_map, Story, story_of, serves_among, serves_then, in_front, walk_calls, InNewSession, memory, plays, PlayedSession, session_begun, call_of_end, bytes_before, DoneWithMoments, MadeAndPlayed, IsPlaying}
use Rattle.paw_play.proofs.{Beginning.begun_ends, Playing.starts, Attaching.no_bytes, Beginning.in_making, Doing.done_none, Doing.done_by, Doing.done_then}
use Rattle.paw_play.proofs.play.play_in.Goals as goal

pub begin-requires-clause-player : goal.begin-requires-clause-player
begin-requires-clause-player g c = record {
  seated = c.in-Ok.ensures.seated;
  answers = rw c.in-Ok.ensures.routines c.requires.answers;
  digests = rw (c.in-Ok.ensures.game, c.in-Ok.ensures.routines) (record { digest = c.requires.game; measured = c.measure.ensures.value });
}

pub play_lines-requires-clause-kept : goal.play_lines-requires-clause-kept
play_lines-requires-clause-kept g c = λ tells. c.in-Ok-begin.ensures.holds.kept (c.begin.ensures.serves.tells.1 tells)

pub returns-in-Err-clause-promises : goal.returns-in-Err-clause-promises
returns-in-Err-clause-promises g c = λ tells X answers name store. done_none (memory refl)

pub returns-clause-serves : goal.returns-clause-serves
returns-clause-serves g c = serves_among g.S.Stage _ _ (call_of_end c.in-Err-begin.end) _ _ (in_front writing_calls walk_calls) c.in-Err-begin.ensures.serves

pub returns-in-Ok-begin-clause-serves : goal.returns-in-Ok-begin-clause-serves
returns-in-Ok-begin-clause-serves g c =
    serves_then g.S.Stage _ _ (call_of_end c.play_lines.result) _ _ _ c.in-Ok-begin.ensures.serves c.play_lines.ensures.serves

pub returns-clause-promises : goal.returns-clause-promises
returns-clause-promises g c = λ tells X answers name store.
    let story : Story = story_of c.in-Ok.seats.0.game X in
    let s : PlayedSession = session_begun story c.args.seed name in
    let old : Standing = g.S.Stage.standing c.args.stage.now in
    let new : Standing = g.S.Stage.standing c.begin.new.stage in
    let own = subst (λ r. AreAnswersOf g.F.Fn r X) (sym c.in-Ok.ensures.routines) answers in
    let begun = c.in-Err-begin.ensures.promises tells X own name in
    let done : DoneWithMoments g.S.Stage c.args.stage.now c.begin.new.stage (MadeAndPlayed s old new c.in-Err-begin.end) (InNewSession s old) =
    done_by (begun_ends OpenSession story s old new c.begin.new.player c.begin.new.room.piece store (c.begin.ensures.beside tells) c.in-Err-begin.end
    begun.meaning (λ e. ap g.S.Stage.standing (c.in-Err-begin.ensures.still e))) begun.any_moment (λ m i. inl (in_making s old m store i)) in
    subst (λ h. DoneWithMoments g.S.Stage c.args.stage.now c.begin.new.stage (MadeAndPlayed (session_begun (story_of h X) c.args.seed name) old new
    c.in-Err-begin.end) (InNewSession (session_begun (story_of h X) c.args.seed name) old)) c.in-Ok.ensures.game done

pub returns-in-Ok-begin-clause-promises : goal.returns-in-Ok-begin-clause-promises
returns-in-Ok-begin-clause-promises g c = λ tells X answers name store.
    let story : Story = story_of c.in-Ok.seats.0.game X in
    let s : PlayedSession = session_begun story c.args.seed name in
    let old : Standing = g.S.Stage.standing c.args.stage.now in
    let mid : Standing = g.S.Stage.standing c.begin.new.stage in
    let new : Standing = g.S.Stage.standing c.play_lines.new.stage in
    let own = subst (λ r. AreAnswersOf g.F.Fn r X) (sym c.in-Ok.ensures.routines) answers in
    let begun = c.in-Ok-begin.ensures.promises tells X own name in
    let empty = no_bytes old.disk.bytes (sym (c.requires.attached tells).long ∙ c.requires.empty) in
    let start : IsPlaying story s old mid c.begin.new.player c.begin.new.room.piece 0 =
    starts story s old mid c.begin.new.player c.begin.new.room.piece store (c.begin.ensures.beside tells) begun.meaning.0
    (c.in-Ok-begin.ensures.holds.kept tells).rests.stable (omega arith) (begun.meaning.1 ∙ ap (bytes_before s) (sym empty)) in
    let p = c.play_lines.ensures.promises (c.begin.ensures.serves.tells.0 tells) X
    (subst (λ r. AreAnswersOf g.F.Fn r X) (sym c.begin.ensures.stays.routines) own) s old
    (subst (λ h. IsPlaying (story_of h X) s old mid c.begin.new.player c.begin.new.room.piece 0) (sym c.begin.ensures.stays.game) start)
    c.in-Ok-begin.ensures.holds.events in
    let done : DoneWithMoments g.S.Stage c.args.stage.now c.play_lines.new.stage (MadeAndPlayed s old new c.play_lines.result) (InNewSession s old) =
    done_then _ (plays c.play_lines.result p.meaning)
    (Passes_map _ _ _ _ _ (InNewSession s old) begun.any_moment (λ m i. inl (in_making s old m store i))) p.any_moment (λ m i. inr i) in
    subst (λ h. DoneWithMoments g.S.Stage c.args.stage.now c.play_lines.new.stage (MadeAndPlayed (session_begun (story_of h X) c.args.seed name) old new
    c.play_lines.result) (InNewSession (session_begun (story_of h X) c.args.seed name) old)) c.in-Ok.ensures.game done
