use Rattle.paw_host.proofs.Cited.{◌∙◌, [], ◌∷◌, sym, ap, subst, arith, Some, None, option_copied, GameLists, Standing, AreAnswersOf, IsAtRest, ChangesStoreOnly, writing_calls, behind, Story, story_of, IsOpen, answer, Stores, Answers, InFile, StoresEither, TakesText}
use Rattle.paw_stage.specs.declared.StageCall.TheVariants as call
use Rattle.paw_host.proofs.{Keeping.resumed, Keeping.kept_refused, Keeping.kept_told, Keeping.in_reading, Leaving.leaves_read, Leaving.on_ok_said, Leaving.grown_length, Leaving.promised_after, Leaving.serves_next, Staying.stays_on}
use Rattle.paw_host.proofs.answer.answer_kept.Goals as goal

-- ---- there is no session ----

pub returns-in-Err-clause-short : goal.returns-in-Err-clause-short
returns-in-Err-clause-short g c = λ tells. omega (arith, c.push_end.ensures.short)

pub returns-in-Err-clause-leaves : goal.returns-in-Err-clause-leaves
returns-in-Err-clause-leaves g c =
    leaves_read g.S.Stage _ _ _ _ (rw c.push_end.ensures.failed c.in-Err.ensures.reads)
    (λ tells. on_ok_said c.push_end.result c.push_end.ensures.says (λ none said.
    subst IsAtRest (sym (c.in-Err.ensures.reads.still tells)) (c.requires.attached tells).rests))

pub returns-in-Err-clause-promises : goal.returns-in-Err-clause-promises
returns-in-Err-clause-promises g c = λ tells X answers before may stores.
    let story : Story = story_of c.args.player.now.game X in
    let seed = c.args.hosted.now.seed in
    let text = option_copied c.args.text in
    let old : Standing = g.S.Stage.standing c.args.stage.now in
    let at = c.requires.attached tells in
    record {
      meaning = on_ok_said c.push_end.result c.push_end.ensures.says (λ none said.
          subst (λ (q : Standing). Answers story (answer story seed before text) c.args.reply.now c.push_end.new.reply q.disk.bytes)
          (sym (c.in-Err.ensures.reads.still tells))
          (kept_refused story c.requires.hosted.prepared.seated.valid old.disk.bytes c.resume.new.player c.resume.new.room.piece seed
          (omega (arith, c.requires.some, at.long)) c.in-Err.end (c.in-Err.ensures.meaning tells X answers) (sym c.push_end.ensures.failed ∙ none)
          before text c.args.reply.now c.push_end.new.reply may stores said));
      any_moment = in_reading story before _ c.in-Err.ensures.reads tells at.rests.stable stores;
    }

-- ---- a text is taken ----

pub answer_text-requires-clause-kept : goal.answer_text-requires-clause-kept
answer_text-requires-clause-kept g c = λ tells. c.in-Ok.ensures.kept (c.resume.ensures.reads.serves.tells.1 tells)

pub returns-in-Some-clause-stays : goal.returns-in-Some-clause-stays
returns-in-Some-clause-stays g c = stays_on c.resume.ensures.stays c.answer_text.ensures.stays

pub returns-in-Some-clause-short : goal.returns-in-Some-clause-short
returns-in-Some-clause-short g c = λ tells. omega (arith, c.answer_text.ensures.short)

pub returns-in-Some-clause-leaves : goal.returns-in-Some-clause-leaves
returns-in-Some-clause-leaves g c = record {
  serves = serves_next c.in-Ok.ensures.reads.serves c.answer_text.ensures.leaves.serves (behind (call.Read ∷ []) writing_calls);
  beside = λ tells.
      subst (λ q. ChangesStoreOnly q (g.S.Stage.standing c.answer_text.new.stage)) (c.resume.ensures.reads.still tells)
      (c.answer_text.ensures.leaves.beside (c.resume.ensures.reads.serves.tells.0 tells));
  left = λ tells. c.answer_text.ensures.leaves.left (c.resume.ensures.reads.serves.tells.0 tells);
}

pub returns-in-Some-clause-promises : goal.returns-in-Some-clause-promises
returns-in-Some-clause-promises g c = λ tells X answers before may stores.
    let story : Story = story_of c.args.player.now.game X in
    let seed = c.args.hosted.now.seed in
    let text = c.in-Some.text.now in
    let old : Standing = g.S.Stage.standing c.args.stage.now in
    let still = c.resume.ensures.reads.still tells in
    let piece = c.resume.new.room.piece in
    let up = resumed story c.requires.hosted.prepared.seated.valid old.disk.bytes c.resume.new.player piece c.in-Ok.session
    (c.in-Ok.ensures.meaning tells X answers) before may stores in
    let own = subst (λ r. AreAnswersOf g.F.Fn r X) (sym c.resume.ensures.stays.routines) answers in
    let taken = subst (λ (h : GameLists). TakesText g.S.Stage c.resume.new.stage c.answer_text.new.stage (story_of h X) c.in-Ok.session.events c.resume.new.player
    piece text c.args.reply.now c.answer_text.new.reply c.answer_text.result) c.resume.ensures.stays.game
    (c.answer_text.ensures.promises (c.resume.ensures.reads.serves.tells.0 tells) X own)
    seed before up.0 up.1 (subst (λ (q : Standing). Stores story before q.disk.bytes) (sym still) stores) up.3
    (subst (λ (q : Standing). IsOpen story up.0 0 [] c.resume.new.player [] piece q.disk.bytes) (sym still) up.2) in
    rw (ap option_copied c.in-Some.is) (promised_after taken
    (in_reading story before _ c.in-Ok.ensures.reads tells (c.requires.attached tells).rests.stable stores) (λ a. a)
    (λ m i. subst (λ q. InFile (StoresEither story before (answer story seed before (Some text)).session) q m) still i))

-- ---- none is ----

pub returns-in-None-clause-short : goal.returns-in-None-clause-short
returns-in-None-clause-short g c = λ tells.
    let short = c.in-Ok.ensures.short tells in
    let grown = c.push_piece.ensures.value (omega (arith, c.requires.room, short)) in
    omega (arith, short, grown_length c.args.reply.now c.resume.new.room.piece c.push_piece.new.reply grown)

pub returns-in-None-clause-leaves : goal.returns-in-None-clause-leaves
returns-in-None-clause-leaves g c = leaves_read g.S.Stage _ _ _ _ c.in-Ok.ensures.reads (λ tells. (c.in-Ok.ensures.kept tells).rests)

pub returns-in-None-clause-promises : goal.returns-in-None-clause-promises
returns-in-None-clause-promises g c = λ tells X answers before may stores.
    let story : Story = story_of c.args.player.now.game X in
    let seed = c.args.hosted.now.seed in
    let old : Standing = g.S.Stage.standing c.args.stage.now in
    let piece = c.resume.new.room.piece in
    let up = resumed story c.requires.hosted.prepared.seated.valid old.disk.bytes c.resume.new.player piece c.in-Ok.session
    (c.in-Ok.ensures.meaning tells X answers) before may stores in
    let grown = c.push_piece.ensures.value (omega (arith, c.requires.room, c.in-Ok.ensures.short tells)) in
    rw (ap option_copied c.in-None.is) (record {
      meaning = subst (λ (q : Standing). Answers story (answer story seed before None) c.args.reply.now c.push_piece.new.reply q.disk.bytes)
          (sym (c.resume.ensures.reads.still tells)) (kept_told up.1 up.2 seed c.args.reply.now c.push_piece.new.reply stores grown);
      any_moment = in_reading story before _ c.in-Ok.ensures.reads tells (c.requires.attached tells).rests.stable stores;
    })
