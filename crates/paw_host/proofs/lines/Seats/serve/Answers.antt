use Rattle.paw_host.proofs.Cited.{◌∙◌, ◌++◌, ◌∷◌, [], refl, sym, subst, inl, inr, None, IsStable, Standing, Passes_map, Passes_on, story_of, valid_story, behind, in_front, serves_done, serves_then, walk_calls, answer_calls, IsServing, Rests}
use Rattle.paw_stage.specs.declared.StageCall.TheVariants as call
use Rattle.paw_host.proofs.{Leaving.serves_next, Hosting.all_answered, Hosting.still_at_prompt, Hosting.cut_request, Hosting.took_one, Hosting.mid_stores, Hosting.works, Hosting.in_show, Hosting.next_serves}
use Rattle.paw_host.proofs.lines.Seats.serve.Goals as goal

pub returns-in-End-clause-serves : goal.returns-in-End-clause-serves
returns-in-End-clause-serves g c = record { tells = c.ask.ensures.tells; counts_failure = c.in-End.ensures.counts_failure; among = tt }

pub returns-in-Failed-clause-serves : goal.returns-in-Failed-clause-serves
returns-in-Failed-clause-serves g c =
    record { tells = c.ask.ensures.tells; counts_failure = c.in-Failed.ensures.counts_failure; among = inr (inr (inr (inr (inl refl)))) }

pub returns-in-Err-clause-serves : goal.returns-in-Err-clause-serves
returns-in-Err-clause-serves g c =
    serves_next (serves_done g.S.Stage _ _ c.ask.ensures.tells c.in-Line.ensures.counts_failure) c.in-Err.ensures.leaves.serves
    (in_front answer_calls walk_calls)

pub returns-in-Ok-show-clause-serves : goal.returns-in-Ok-show-clause-serves
returns-in-Ok-show-clause-serves g c =
    serves_next (serves_then g.S.Stage _ _ None _ _ _ (serves_done g.S.Stage _ _ c.ask.ensures.tells c.in-Line.ensures.counts_failure)
    c.in-Ok.ensures.leaves.serves) c.in-Ok-show.ensures.serves (behind (answer_calls ++ call.Ask ∷ []) (call.Show ∷ []))

pub returns-in-Err-show-clause-serves : goal.returns-in-Err-show-clause-serves
returns-in-Err-show-clause-serves g c =
    serves_next (serves_then g.S.Stage _ _ None _ _ _ (serves_done g.S.Stage _ _ c.ask.ensures.tells c.in-Line.ensures.counts_failure)
    c.in-Ok.ensures.leaves.serves) c.in-Err-show.ensures.serves (behind (answer_calls ++ call.Ask ∷ []) (call.Show ∷ []))

pub reply-requires-clause-synced : goal.reply-requires-clause-synced
reply-requires-clause-synced g c = λ tells.
    let before = c.ask.ensures.tells.1 tells in
    subst (λ (q : Standing). IsStable q.disk) (sym (c.in-Line.ensures.answer before).3) (c.requires.synced before)

pub returns-in-Ok-show-clause-synced : goal.returns-in-Ok-show-clause-synced
returns-in-Ok-show-clause-synced g c = λ tells.
    let asked = c.ask.ensures.tells.0 tells in
    subst (λ (q : Standing). IsStable q.disk) (sym (c.in-Ok-show.ensures.shown (c.reply.ensures.leaves.serves.tells.0 asked)))
    (c.in-Ok.ensures.leaves.left asked)

pub returns-in-Ok-show-clause-takes : goal.returns-in-Ok-show-clause-takes
returns-in-Ok-show-clause-takes g c = λ tells.
    let a = c.in-Line.ensures.answer tells in
    let asked = c.ask.ensures.tells.0 tells in
    took_one (g.S.Stage.standing c.args.stage.now) (g.S.Stage.standing c.ask.new.self) (g.S.Stage.standing c.reply.new.stage)
    (g.S.Stage.standing c.show.new.stage) a.0 c.bytes.result.now a.1 a.3 (c.reply.ensures.leaves.beside asked)
    (c.in-Ok-show.ensures.shown (c.reply.ensures.leaves.serves.tells.0 asked))

-- ---- what is promised ----

pub returns-in-End-clause-promises : goal.returns-in-End-clause-promises
returns-in-End-clause-promises g c = λ tells X answers first start n small bytes s.
    let a = c.in-End.ensures.answer tells in
    record {
      meaning =
          (all_answered s a.0, subst (λ q. IsServing (story_of c.args.self.now.player.game X) c.args.hosted.now.seed first start q n) (sym a.1) s);
      any_moment = Passes_map _ _ _ _ _ _ (c.in-End.ensures.time tells) (λ m i. still_at_prompt s m (elim i [ inl e ↦ e | inr e ↦ e ∙ a.1 ]));
    }

pub returns-in-Failed-clause-promises : goal.returns-in-Failed-clause-promises
returns-in-Failed-clause-promises g c = λ tells X answers first start n small bytes s.
    record {
      meaning = tt;
      any_moment = Passes_map _ _ _ _ _ _ (c.in-Failed.ensures.time tells)
          (λ m i. still_at_prompt s m (elim i [ inl e ↦ e | inr e ↦ e ∙ c.in-Failed.ensures.answer tells ]));
    }

pub returns-in-Err-clause-promises : goal.returns-in-Err-clause-promises
returns-in-Err-clause-promises g c = λ tells X answers first start n small bytes s.
    let a = c.in-Line.ensures.answer tells in
    record {
      meaning = tt;
      any_moment = works s a.1 a.3 _ (cut_request a.0 _ _ _ a.2 refl)
          (c.in-Err.ensures.promises (c.ask.ensures.tells.0 tells) X answers _ s.may (mid_stores s a.1 a.3)) (c.in-Line.ensures.time tells);
    }

pub returns-in-Ok-show-clause-promises : goal.returns-in-Ok-show-clause-promises
returns-in-Ok-show-clause-promises g c = λ tells X answers first start n small bytes s.
    let a = c.in-Line.ensures.answer tells in
    let asked = c.ask.ensures.tells.0 tells in
    let replied = c.reply.ensures.leaves.serves.tells.0 asked in
    let same = cut_request a.0 _ _ _ a.2 refl in
    let does = c.in-Ok.ensures.promises asked X answers _ s.may (mid_stores s a.1 a.3) in
    let rests : Rests (g.S.Stage.standing c.reply.new.stage) =
    record { stable = c.in-Ok.ensures.leaves.left asked; files = λ name e. g.met.S.Stage.files_hold c.reply.new.stage name replied e } in
    let shown = c.in-Ok-show.ensures.shown replied in
    record {
      meaning = next_serves s a.1 a.3 _ same _ _ does.meaning rests _ c.bytes.ensures.value _ shown
          (record {
            stable = subst (λ (q : Standing). IsStable q.disk) (sym shown) rests.stable;
            files = λ name e. g.met.S.Stage.files_hold c.show.new.stage name (c.show.ensures.serves.tells.0 replied) e;
          })
          (valid_story g.F.Fn c.args.self.now.player.routines c.args.self.now.player.game X c.requires.hosted.prepared.seated.valid answers) small bytes;
      any_moment = Passes_on _ _ _ _ _ _ _ _ (works s a.1 a.3 _ same does (c.in-Line.ensures.time tells)) (c.show.ensures.time replied)
          (in_show s a.1 a.3 _ same _ _ does.meaning rests _ c.bytes.ensures.value);
    }

pub returns-in-Err-show-clause-promises : goal.returns-in-Err-show-clause-promises
returns-in-Err-show-clause-promises g c = λ tells X answers first start n small bytes s.
    let a = c.in-Line.ensures.answer tells in
    let asked = c.ask.ensures.tells.0 tells in
    let replied = c.reply.ensures.leaves.serves.tells.0 asked in
    let same = cut_request a.0 _ _ _ a.2 refl in
    let does = c.in-Ok.ensures.promises asked X answers _ s.may (mid_stores s a.1 a.3) in
    record {
      meaning = tt;
      any_moment = Passes_on _ _ _ _ _ _ _ _ (works s a.1 a.3 _ same does (c.in-Line.ensures.time tells)) (c.show.ensures.time replied)
          (in_show s a.1 a.3 _ same _ _ does.meaning
          (record { stable = c.in-Ok.ensures.leaves.left asked; files = λ name e. g.met.S.Stage.files_hold c.reply.new.stage name replied e })
          _ c.bytes.ensures.value);
    }
