use Rattle.paw_host.proofs.Cited.{◌≡◌, ◌⊎◌, ◌∙◌, [], ◌∷◌, sym, subst, inl, inr, Some, on_ok_weaker, option_copied, RoutineAnswers, Standing, Unattached, file_bytes, with_store_opened, EachMoment, Passes_map, failed_stage_call, writing_calls, behind, in_front, serves_among, Story, story_of, NamedSession, Absent, answer, Stores, Answers, InAnswer, InFile, LeftOf}
use Rattle.paw_stage.specs.declared.StageCall.TheVariants as call
use Rattle.paw_host.proofs.{Leaving.leaves_attached, Leaving.promised_after, Reaching.in_attach, Reaching.answer_before, Reaching.answer_in_new, Reaching.answer_in_kept, Reaching.none_stored, Reaching.no_bytes, Reaching.attached_still, Reaching.aside_unattached}
use Rattle.paw_host.proofs.answer.answer.Given.{Over}
use Rattle.paw_host.proofs.answer.answer.Goals.{After-attach}
use Rattle.paw_host.proofs.answer.answer.Goals as goal

-- ---- the attach ----

-- Nothing is answered while the store is attached.
attaches : (g : Over) (c : After-attach g) (tells : g.S.Stage.Tells c.args.stage.now) (X : RoutineAnswers) (before after : NamedSession)
    → Stores (story_of c.args.player.now.game X) before (file_bytes (g.S.Stage.standing c.args.stage.now) c.args.store.now)
    → (g.S.Stage.standing c.attach.new.stage ≡ with_store_opened c.args.store.now (g.S.Stage.standing c.args.stage.now))
    ⊎ Unattached (g.S.Stage.standing c.args.stage.now) (g.S.Stage.standing c.attach.new.stage)
    → EachMoment g.S.Stage c.args.stage.now c.attach.new.stage
    (InAnswer (story_of c.args.player.now.game X) c.args.hosted.now.seed c.args.store.now before after (g.S.Stage.standing c.args.stage.now))
attaches g c tells X before after stores how =
    let story : Story = story_of c.args.player.now.game X in
    let old : Standing = g.S.Stage.standing c.args.stage.now in
    let name = c.args.store.now in
    Passes_map _ _ _ _ _ (InAnswer story c.args.hosted.now.seed name before after old) (c.attach.ensures.time tells)
    (λ m i. answer_before story c.args.hosted.now.seed name before after old stores m
    (in_attach old (g.S.Stage.standing c.attach.new.stage) name
    (record { stable = c.requires.synced tells; files = λ n e. g.met.S.Stage.files_hold c.args.stage.now n tells e }) how m i))

-- ---- the attach failed ----

pub returns-in-Err-clause-leaves : goal.returns-in-Err-clause-leaves
returns-in-Err-clause-leaves g c = record {
  serves = serves_among g.S.Stage _ _ (Some c.in-Err.call) _ _ (in_front (call.Attach ∷ []) (call.Read ∷ writing_calls)) c.in-Err.ensures.serves;
  beside = λ tells. aside_unattached c.args.store.now _ _ (c.in-Err.ensures.left tells);
  left = λ tells. tt;
}

pub returns-in-Err-clause-promises : goal.returns-in-Err-clause-promises
returns-in-Err-clause-promises g c = λ tells X answers before may stores.
    record {
      meaning = tt;
      any_moment =
          attaches g (goal.at.returns-in-Err-clause-promises g c).After-attach tells X before _ stores (inr (c.in-Err.ensures.left tells));
    }

-- ---- a new session ----

pub returns-then-at-eq0-clause-leaves : goal.returns-then-at-eq0-clause-leaves
returns-then-at-eq0-clause-leaves g c =
    leaves_attached g.S.Stage _ _ (failed_stage_call c.answer_new.result) c.answer_new.result c.args.store.now _ _ _ (behind (call.Attach ∷ call.Read ∷ []) writing_calls) c.in-Ok.ensures.serves
    (λ tells. (c.in-Ok.ensures.attached tells).1) c.answer_new.ensures.leaves

pub returns-then-at-eq0-clause-promises : goal.returns-then-at-eq0-clause-promises
returns-then-at-eq0-clause-promises g c = λ tells X answers before may stores.
    let story : Story = story_of c.args.player.now.game X in
    let seed = c.args.hosted.now.seed in
    let name = c.args.store.now in
    let text = option_copied c.args.text in
    let old : Standing = g.S.Stage.standing c.args.stage.now in
    let mid : Standing = g.S.Stage.standing c.attach.new.stage in
    let new : Standing = g.S.Stage.standing c.answer_new.new.stage in
    let now = c.attach.ensures.serves.tells.0 tells in
    let a = c.in-Ok.ensures.attached tells in
    let none = none_stored story before (file_bytes old name) (no_bytes (file_bytes old name) (sym a.0 ∙ c.if-at-eq0.true)) stores in
    let there = g.met.S.Stage.files_hold c.answer_new.new.stage name (c.answer_new.ensures.leaves.serves.tells.0 now)
    (attached_still name old mid new a.1 (c.answer_new.ensures.leaves.beside now)) in
    let after : NamedSession = (answer story seed before text).session in
    promised_after (c.answer_new.ensures.promises now X answers)
    (attaches g (goal.at.returns-then-at-eq0-clause-promises g c).After-attach tells X before after stores (inl a.1))
    (on_ok_weaker c.answer_new.result
    (λ h. subst (λ s. Answers story (answer story seed s text) c.args.reply.now c.answer_new.new.reply (file_bytes new name)) (sym none)
    (subst (λ b. Answers story (answer story seed Absent text) c.args.reply.now c.answer_new.new.reply b) (sym there) h)))
    (λ m i. answer_in_new story seed name before after old mid m stores none a.1
    (subst (λ s. InFile (LeftOf story seed Absent (answer story seed s text).session) mid m) (sym none) i))

-- ---- one that was kept ----

pub returns-else-at-eq0-clause-leaves : goal.returns-else-at-eq0-clause-leaves
returns-else-at-eq0-clause-leaves g c =
    leaves_attached g.S.Stage _ _ (failed_stage_call c.answer_kept.result) c.answer_kept.result c.args.store.now _ _ _ (behind (call.Attach ∷ []) (call.Read ∷ writing_calls)) c.in-Ok.ensures.serves
    (λ tells. (c.in-Ok.ensures.attached tells).1) c.answer_kept.ensures.leaves

pub returns-else-at-eq0-clause-promises : goal.returns-else-at-eq0-clause-promises
returns-else-at-eq0-clause-promises g c = λ tells X answers before may stores.
    let story : Story = story_of c.args.player.now.game X in
    let name = c.args.store.now in
    let old : Standing = g.S.Stage.standing c.args.stage.now in
    let mid : Standing = g.S.Stage.standing c.attach.new.stage in
    let new : Standing = g.S.Stage.standing c.answer_kept.new.stage in
    let now = c.attach.ensures.serves.tells.0 tells in
    let a = c.in-Ok.ensures.attached tells in
    let there = g.met.S.Stage.files_hold c.answer_kept.new.stage name (c.answer_kept.ensures.leaves.serves.tells.0 now)
    (attached_still name old mid new a.1 (c.answer_kept.ensures.leaves.beside now)) in
    let here = subst (λ (q : Standing). Stores story before q.disk.bytes) (sym a.1) stores in
    let seed = c.args.hosted.now.seed in
    let after : NamedSession = (answer story seed before (option_copied c.args.text)).session in
    promised_after (c.answer_kept.ensures.promises now X answers before may here)
    (attaches g (goal.at.returns-else-at-eq0-clause-promises g c).After-attach tells X before after stores (inl a.1))
    (on_ok_weaker c.answer_kept.result
    (λ h. subst (λ b. Answers story (answer story seed before (option_copied c.args.text)) c.args.reply.now c.answer_kept.new.reply b) (sym there) h))
    (λ m i. answer_in_kept story seed name before after old mid m stores a.1 i)

-- ---- the reply ----

pub returns-then-at-eq0-clause-short : goal.returns-then-at-eq0-clause-short
returns-then-at-eq0-clause-short g c = λ tells. c.answer_new.ensures.short

pub returns-else-at-eq0-clause-short : goal.returns-else-at-eq0-clause-short
returns-else-at-eq0-clause-short g c = λ tells. c.answer_kept.ensures.short (c.attach.ensures.serves.tells.0 tells)
