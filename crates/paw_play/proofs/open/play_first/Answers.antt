use Rattle.paw_play.proofs.Names.{◌≡◌, ◌∙◌, sym, ap, subst, arith, World, AreAnswersOf, HaveAnswers, IsStanding, Story, story_of, reading}
use Rattle.paw_play.proofs.{Opened.first_played, ShownSteps.may_if_none}
use Rattle.paw_play.proofs.open.play_first.Goals as goal

pub returns-clause-may : goal.returns-clause-may
returns-clause-may g c =
    let none : c.renew.new.self.world.draws ≡ 0 = ap (λ (w : World). w.draws) c.renew.ensures.new.world in
    may_if_none c.start-step.result c.end_without_piece.result c.end_without_piece.ensures.value
    (λ stands. record {
      seated = c.start-step.ensures.seated;
      answers = subst (HaveAnswers g.F.Fn) (sym (c.start-step.ensures.routines ∙ c.renew.ensures.routines)) c.requires.answers;
      standing = subst IsStanding (sym c.start-step.ensures.last) stands;
      drew = omega (arith, none, c.start-step.ensures.draws);
      few = omega arith;
    })

pub returns-clause-meaning : goal.returns-clause-meaning
returns-clause-meaning g c = λ X answers.
    let own = subst (λ r. AreAnswersOf g.F.Fn r X) (sym c.renew.ensures.routines) answers in
    let seeded = ap (λ (w : World). w.seed) c.renew.ensures.new.world in
    let story : Story = story_of c.args.player.now.game X in
    first_played story (reading story c.args.seed) c.start-step.result c.start-step.new.self c.start-step.ensures.last c.start-step.ensures.seated
    (rw (c.renew.ensures.game, seeded) at (c.start-step.ensures.meaning X own)) c.end_without_piece.result c.end_without_piece.ensures.value
