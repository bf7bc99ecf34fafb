use Rattle.paw_host.proofs.Cited.{◌∙◌, sym, subst, length, arith, leb-true, on_ok_weaker, file_bytes, Story, story_of, Stores, asks}
use Rattle.paw_host.proofs.{Leaving.on_ok_both, Leaving.promised, Named.name_short, Serving.does_request, Serving.doing_request}
use Rattle.paw_host.proofs.lines.Seats.answer.Goals as goal

pub begin_reply-requires : goal.begin_reply-requires
begin_reply-requires g c = record { short = leb-true (length c.args.request.name.now) 16 (name_short c.args.request.name.now c.requires.name) }

pub returns-clause-leaves : goal.returns-clause-leaves
returns-clause-leaves g c = record {
  serves = c.answer-answered.ensures.leaves.serves;
  beside = λ tells. let a = c.answer-answered.ensures.leaves.beside tells in record { lines = a.lines; asked = a.asked };
  left = λ tells. on_ok_weaker c.answer-answered.result (λ a. a.stable) (c.answer-answered.ensures.leaves.left tells);
}

pub returns-clause-promises : goal.returns-clause-promises
returns-clause-promises g c = λ tells X answers sessions may stores.
    let story : Story = story_of c.args.self.now.player.game X in
    let name = c.args.request.name.now in
    let store = c.as_str.result.now in
    let is = c.as_str.ensures.value ∙ c.set.ensures.value in
    let old = g.S.Stage.standing c.args.stage.now in
    let here = subst (λ x. Stores story (sessions name) (file_bytes old x)) (sym is) (stores name c.requires.name) in
    promised (c.answer-answered.ensures.promises tells X answers (sessions name) (may name c.requires.name) here)
    (λ h. on_ok_both c.answer-answered.result h (c.answer-answered.ensures.leaves.left tells) (λ a rests.
    does_request story c.args.hosted.now.seed sessions old (asks c.args.request) store stores is _ _ _ _ (c.answer-answered.ensures.leaves.beside tells)
    rests.attached c.begin_reply.ensures.value a
    (c.push.ensures.value (omega (arith, c.answer-answered.ensures.short tells, c.begin_reply.ensures.short)))))
    (doing_request story c.args.hosted.now.seed sessions old (asks c.args.request) store stores is)
