use Rattle.paw_play.proofs.Names.{IsStanding, [], ◌<◌, refl, sym, subst, arith, EVENT_LIMIT, IsLine, bytes_each, valid_story, HaveAnswers, prompt_at}
use Rattle.paw_play.proofs.{Following.follows_on, Opened.over_stops, Opened.full_stops, Opened.next_played, ShownSteps.may_if_none}
use Rattle.paw_play.proofs.open.play_next.Goals as goal

pub returns-then-is_over-clause-meaning : goal.returns-then-is_over-clause-meaning
returns-then-is_over-clause-meaning g c = λ X answers whole taken earlier piece h. over_stops h c.args.events c.args.line.now c.if-is_over.ensures.cases

pub returns-then-events-ge-EVENT_LIMIT-clause-meaning : goal.returns-then-events-ge-EVENT_LIMIT-clause-meaning
returns-then-events-ge-EVENT_LIMIT-clause-meaning g c = λ X answers whole taken earlier piece h.
    full_stops h c.args.events c.args.line.now (prompt_at c.args.player.now.last) c.if-is_over.ensures.cases c.requires.may.seated
    (omega (arith, c.if-events-ge-EVENT_LIMIT.true))

pub returns-clause-may : goal.returns-clause-may
returns-clause-may g c =
    may_if_none c.take-step.result c.end_without_piece.result c.end_without_piece.ensures.value
    (λ stands. record {
      seated = c.take-step.ensures.seated;
      answers = subst (HaveAnswers g.F.Fn) (sym c.take-step.ensures.routines) c.requires.may.answers;
      standing = subst IsStanding (sym c.take-step.ensures.last) stands;
      drew = omega (arith, c.requires.may.drew, c.take-step.ensures.draws);
      few = omega (arith, c.if-events-ge-EVENT_LIMIT.false);
    })

pub returns-clause-meaning : goal.returns-clause-meaning
returns-clause-meaning g c = λ X answers whole taken earlier piece h.
    let seat = c.args.player.now in
    let p = prompt_at seat.last in
    let last = c.if-is_over.ensures.cases in
    let may = c.requires.may in
    let few : c.args.events < EVENT_LIMIT = omega (arith, c.if-events-ge-EVENT_LIMIT.false) in
    let line : IsLine c.args.line.now = record { short = c.requires.short; bytes = bytes_each c.args.line.now (λ i. (c.type_inv.line i).fits) } in
    let plays = c.take-step.ensures.meaning X answers p last in
    next_played h p last may.seated c.args.events few c.args.line.now c.take-step.result c.take-step.new.self c.take-step.ensures.last c.take-step.ensures.seated
    (plays h.pieces h.traces)
    (follows_on h (valid_story g.F.Fn seat.routines seat.game X may.seated.valid answers) refl c.args.events few may.drew p last may.seated c.args.line.now line
    c.take-step.result c.take-step.new.self c.take-step.ensures.game c.take-step.ensures.last c.take-step.ensures.seated (plays [] []))
    c.end_without_piece.result c.end_without_piece.ensures.value
