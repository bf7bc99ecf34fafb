use Rattle.paw_play.proofs.Names.{◌∙◌, Some, None, sym, subst, EVENT_LIMIT, AreAnswersOf, HaveAnswers, NotesShown, serves_then, story_of, call_of_end, reading, Walks, IsWalking, with_shown_steps}
use Rattle.paw_play.proofs.Walking.{walk_starts}
use Rattle.paw_play.proofs.walk.walk_loop.Goals as goal

pub start-step-requires-clause-answers : goal.start-step-requires-clause-answers
start-step-requires-clause-answers g c = subst (λ r. HaveAnswers g.F.Fn r) (sym c.in-Ok-player.ensures.routines) c.requires.answers

pub walk_lines-requires-clause-answers : goal.walk_lines-requires-clause-answers
walk_lines-requires-clause-answers g c =
    subst (λ r. HaveAnswers g.F.Fn r) (sym (c.start-step.ensures.routines ∙ c.in-Ok-player.ensures.routines)) c.requires.answers

pub returns-in-Some-clause-walks : goal.returns-in-Some-clause-walks
returns-in-Some-clause-walks g c = λ tells X answers.
    let own = subst (λ r. AreAnswersOf g.F.Fn r X) (sym c.in-Ok-player.ensures.routines) answers in
    let keeps = subst (NotesShown g.P.Preface.showing) (sym c.start-step.ensures.most) c.in-Ok-player.ensures.keeps in
    rw c.in-Ok-player.ensures.game at (walk_starts g.P.Preface.showing (story_of c.in-Ok-player.player.game X) c.args.seed EVENT_LIMIT _ _
    c.in-Ok-player.player c.start-step.new.self c.start-step.result (Some c.in-Some.end) c.in-Ok-player.ensures.new keeps
    c.start-step.ensures.seated c.start-step.ensures.last (c.start-step.ensures.meaning X own) (c.in-Some.ensures.meaning tells))

pub returns-clause-walks : goal.returns-clause-walks
returns-clause-walks g c = λ tells X answers.
    let showing = g.P.Preface.showing in
    let story = story_of c.in-Ok-player.player.game X in
    let old = g.S.Stage.standing c.args.stage.now in
    let own = subst (λ r. AreAnswersOf g.F.Fn r X) (sym c.in-Ok-player.ensures.routines) answers in
    let keeps = subst (NotesShown g.P.Preface.showing) (sym c.start-step.ensures.most) c.in-Ok-player.ensures.keeps in
    let later = subst (λ r. AreAnswersOf g.F.Fn r X) (sym (c.start-step.ensures.routines ∙ c.in-Ok-player.ensures.routines)) answers in
    let walking = walk_starts showing story c.args.seed EVENT_LIMIT _ _ c.in-Ok-player.player c.start-step.new.self c.start-step.result
    None c.in-Ok-player.ensures.new keeps c.start-step.ensures.seated
    c.start-step.ensures.last (c.start-step.ensures.meaning X own) (c.in_default-show_step.ensures.meaning tells) in
    subst (λ k. Walks (with_shown_steps showing (reading (story_of k X) c.args.seed)) EVENT_LIMIT old (g.S.Stage.standing c.walk_lines.new.stage)
    c.walk_lines.result) c.in-Ok-player.ensures.game
    (c.walk_lines.ensures.meaning (c.show_step.ensures.serves.tells.0 tells) X later _ old
    (subst (λ k. IsWalking showing (story_of k X) (reading story c.args.seed) old (g.S.Stage.standing c.show_step.new.stage)
    c.start-step.new.self 0) (sym c.start-step.ensures.game) walking))

pub returns-clause-serves : goal.returns-clause-serves
returns-clause-serves g c = serves_then g.S.Stage _ _ (call_of_end c.walk_lines.result) _ _ _ c.in_default-show_step.ensures.serves c.walk_lines.ensures.serves
