use Rattle.paw_play.proofs.Names.{Standing, kept_digests, PlayedSession, from_state, ◌∙◌, [], ◌∷◌, inl, inr, sym, subst, Valid, Passes_map, Passes_on, Passes_none, AreAnswersOf, Story, story_of, behind, serves_among, serves_then, the_only_one, play_calls, InPlay, store_bytes, attached_to, without_memory, call_of_end, Ok, Err, GameLists, IsPlaying, ResumesTo}
use Rattle.paw_stage.specs.declared.StageCall.TheVariants as call
use Rattle.paw_play.proofs.Again.{not_again, opens_again, plays_again, in_again, in_search}
use Rattle.paw_play.proofs.resume.resume_in.Goals as goal

pub resume-requires-clause-player : goal.resume-requires-clause-player
resume-requires-clause-player g c = record {
  seated = c.in-Ok.ensures.seated;
  answers = rw c.in-Ok.ensures.routines c.requires.answers;
  digests = rw (c.in-Ok.ensures.game, c.in-Ok.ensures.routines) (record { digest = c.requires.game; measured = c.measure.ensures.value });
}

pub play_lines-requires-clause-kept : goal.play_lines-requires-clause-kept
play_lines-requires-clause-kept g c = λ tells. c.in-Ok-resume.ensures.kept (c.resume.ensures.reads.serves.tells.1 tells)

pub returns-in-Err-clause-promises : goal.returns-in-Err-clause-promises
returns-in-Err-clause-promises g c = λ tells X answers before name is. (without_memory is, λ s from. Passes_none _ _ _)

pub returns-clause-serves : goal.returns-clause-serves
returns-clause-serves g c =
    serves_among g.S.Stage _ _ (call_of_end c.in-Err-resume.end) _ _ (λ x h. inr (inl (the_only_one x call.Read h))) c.in-Err-resume.ensures.reads.serves

pub returns-in-Ok-resume-clause-serves : goal.returns-in-Ok-resume-clause-serves
returns-in-Ok-resume-clause-serves g c =
    serves_then g.S.Stage _ _ (call_of_end c.play_lines.result) _ _ _ c.in-Ok-resume.ensures.reads.serves
    (serves_among g.S.Stage _ _ (call_of_end c.play_lines.result) _ _ (behind (call.Attach ∷ call.Read ∷ []) play_calls) c.play_lines.ensures.serves)

pub returns-clause-promises : goal.returns-clause-promises
returns-clause-promises g c = λ tells X answers before name is.
    let own = subst (λ r. AreAnswersOf g.F.Fn r X) (sym c.in-Ok.ensures.routines) answers in
    let story : Story = story_of (g.T.Tables.game c.args.tables.now) X in
    let valid : Valid (g.T.Tables.game c.args.tables.now) = subst Valid c.in-Ok.ensures.game c.in-Ok.ensures.seated.valid in
    let came = subst (λ h. ResumesTo (story_of h X) (g.S.Stage.standing c.args.stage.now).disk.bytes c.resume.new.player c.resume.new.room.piece
    (Err c.in-Err-resume.end)) c.in-Ok.ensures.game (c.in-Err-resume.ensures.meaning tells X own) in (
      not_again story name before _ c.resume.new.player c.resume.new.room.piece c.in-Err-resume.end
          (subst (λ (q : Standing). ResumesTo story q.disk.bytes c.resume.new.player c.resume.new.room.piece (Err c.in-Err-resume.end)) is came)
          (c.in-Err-resume.ensures.reads.still tells ∙ is),
      λ s from. Passes_map _ _ _ _ _ (InPlay s before) (c.resume.ensures.reads.crash tells) (in_search story name before _ s valid from is),
    )

pub returns-in-Ok-resume-clause-promises : goal.returns-in-Ok-resume-clause-promises
returns-in-Ok-resume-clause-promises g c = λ tells X answers before name is.
    let own = subst (λ r. AreAnswersOf g.F.Fn r X) (sym c.in-Ok.ensures.routines) answers in
    let game : GameLists = g.T.Tables.game c.args.tables.now in
    let story : Story = story_of game X in
    let valid : Valid game = subst Valid c.in-Ok.ensures.game c.in-Ok.ensures.seated.valid in
    let player = c.resume.new.player in
    let piece = c.resume.new.room.piece in
    let session = c.in-Ok-resume.session in
    let mid : Standing = g.S.Stage.standing c.resume.new.stage in
    let came = subst (λ (q : Standing). ResumesTo story q.disk.bytes player piece (Ok session)) is
    (subst (λ h. ResumesTo (story_of h X) (g.S.Stage.standing c.args.stage.now).disk.bytes player piece (Ok session)) c.in-Ok.ensures.game
    (c.in-Ok-resume.ensures.meaning tells X own)) in
    let again : PlayedSession = from_state story came.1 piece (kept_digests (store_bytes before name)) name in
    let start = opens_again story name before mid player piece session came (c.in-Ok-resume.ensures.reads.still tells ∙ is)
    (c.in-Ok-resume.ensures.kept tells).rests.stable c.in-Ok-resume.ensures.may.few in
    let p = c.play_lines.ensures.promises (c.resume.ensures.reads.serves.tells.0 tells) X
    (subst (λ r. AreAnswersOf g.F.Fn r X) (sym c.resume.ensures.stays.routines) own) again (attached_to before name)
    (subst (λ h. IsPlaying (story_of h X) again (attached_to before name) mid player piece 0) (sym (c.resume.ensures.stays.game ∙ c.in-Ok.ensures.game)) start)
    came.3 in (
      plays_again story name before mid player piece session came _ c.play_lines.result p.meaning,
      λ s from.
          let to = in_again story name before mid player piece session came s valid from in
          Passes_on _ _ _ _ _ _ (InPlay s before) _
          (Passes_map _ _ _ _ _ (InPlay s before) (c.resume.ensures.reads.crash tells) (in_search story name before _ s valid from is))
          p.any_moment to,
    )
