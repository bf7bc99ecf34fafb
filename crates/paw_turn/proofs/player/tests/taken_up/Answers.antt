use Rattle.std.proofs.Common.{ap, sym, ◌∙◌, subst}
use Rattle.paw_game.specs.Game.{GameLists}
use Rattle.paw_routines.specs.Routines.{HaveAnswers}
use Rattle.paw_turn.specs.inner.Parts.{Fits}
use Rattle.paw_turn.specs.inner.Player.{PlayerView, IsStanding}
use Rattle.paw_turn.proofs.player.tests.taken_up.Goals as goal

pub taken_apart-requires-clause-standing : goal.taken_apart-requires-clause-standing
taken_apart-requires-clause-standing g c =
    subst IsStanding (c.step_of.ensures.value ∙ ap (λ (p : PlayerView g.row.F.Denot). p.last) c.player.view_is)
    (c.is_standing.ensures.standing c.if-not-is_standing.false)

pub adopt-requires : goal.adopt-requires
adopt-requires g c =
    let a = c.in_ok-apart.apart in
    record {
      fits = subst (λ (q : PlayerView g.row.F.Denot). Fits q.game a.world a.machine a.pending a.prompt) (sym c.player.view_is) c.in_ok-apart.ensures.fits;
    }

pub seat-requires-clause-fits : goal.seat-requires-clause-fits
seat-requires-clause-fits g c =
    let a = c.in_ok-apart.apart in
    let game = c.start.ensures.game ∙ c.in_ok-other-2.ensures.game in
    subst (λ (h : GameLists). Fits h a.world a.machine a.pending a.prompt)
    (sym (game ∙ ap (λ (q : PlayerView g.row.F.Denot). q.game) c.player.view_is)) c.in_ok-apart.ensures.fits

pub start-requires-clause-answers : goal.start-requires-clause-answers
start-requires-clause-answers g c =
    subst (λ r. HaveAnswers g.F.Fn r)
    (sym (c.in_ok-other-2.ensures.routines ∙ ap (λ (q : PlayerView g.row.F.Denot). q.routines) c.player.view_is)) c.requires.answers

pub returns-clause-answers : goal.returns-clause-answers
returns-clause-answers g c =
    let kept = c.start.ensures.routines ∙ (c.in_ok-other-2.ensures.routines ∙ ap (λ (q : PlayerView g.row.F.Denot). q.routines) c.player.view_is) in
    subst (λ r. HaveAnswers g.F.Fn r) (sym (ap (λ (q : PlayerView g.row.F.Denot). q.routines) c.seat.ensures.value ∙ kept)) c.requires.answers
