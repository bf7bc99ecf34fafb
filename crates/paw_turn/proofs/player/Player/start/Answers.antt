use Rattle.std.proofs.Common.{[], ap, sym, subst}
use Rattle.paw_routines.specs.Routines.{AreAnswersOf, HaveAnswers}
use Rattle.paw_effects.specs.Story.{story_of}
use Rattle.paw_reading.specs.Turn.{reading}
use Rattle.paw_turn.specs.declared.turn.PlayState.{PlayState}
use Rattle.paw_turn.specs.inner.Player.{step_of, PlayerView, IsNew, PlaysTo}
use Rattle.paw_turn.specs.inner.Phases.{seat_of, state_settled}
use Rattle.paw_turn.proofs.Settling.{start_plays}
use Rattle.paw_game.specs.Valid.{Valid}
use Rattle.paw_turn.proofs.Seating.{new_ready, new_read}
use Rattle.paw_turn.proofs.Standing.{start_seated}
use Rattle.paw_turn.proofs.player.Player.start.Goals as goal

pub returns-clause-meaning : goal.returns-clause-meaning
returns-clause-meaning g c X answers =
    let own = g.T.Tables.game c.self.inside.rules.tables.now in
    let routines = c.self.inside.rules.routines.now in
    let s = c.play-stop.result in
    let own_rows = subst (λ (q : PlayerView g.row.F.Denot). AreAnswersOf g.F.Fn q.routines X) (sym c.self.view_is) answers in
    let Told : PlayerView g.row.F.Denot → PlayState → Type 0 = λ q h.
    PlaysTo (story_of q.game X) (reading (story_of q.game X) q.world.seed) (step_of s)
    (seat_of own routines h (step_of s)) [] [] in
    rw c.step_of.ensures.value (subst (Told c.args.self.now) (sym c.settle.ensures.value)
    (subst (λ (q : PlayerView g.row.F.Denot). IsNew q q.world.seed → Told q (state_settled (step_of s) c.play-stop.new.state)) c.self.view_is
    (start_plays (story_of own X) routines c.self.inside.state c.play-stop.new.state s (step_of c.self.inside.last) (c.play-stop.ensures.meaning X own_rows))
    c.requires.new))

pub returns-clause-seated : goal.returns-clause-seated
returns-clause-seated g c =
    start_seated g.F.Fn c.self.inside.rules.routines.now c.args.self.now (g.T.Tables.game c.self.inside.rules.tables.now)
    c.play-stop.new.state c.settle.new.self (step_of c.play-stop.result) c.requires.answers.0 c.requires.answers.1 c.requires.seated
    (ap (λ (q : PlayerView g.row.F.Denot). q.game) c.self.view_is)
    c.settle.ensures.value c.play-stop.ensures.stays.machine
    (rw c.step_of.ensures.value at (returns-clause-meaning g c c.requires.answers.0 c.requires.answers.1))

pub play-stop-requires : goal.play-stop-requires
play-stop-requires g c =
    let own = g.T.Tables.game c.self.inside.rules.tables.now in
    let routines = c.self.inside.rules.routines.now in
    let fresh = subst (λ (q : PlayerView g.row.F.Denot). IsNew q q.world.seed) (sym c.self.view_is) c.requires.new in
    let valid = subst (λ (q : PlayerView g.row.F.Denot). Valid q.game) (sym c.self.view_is) c.requires.seated.valid in
    record {
      may = record {
        answers = subst (λ (q : PlayerView g.row.F.Denot). HaveAnswers g.F.Fn q.routines) (sym c.self.view_is) c.requires.answers;
        read = new_read own routines c.self.inside.state (step_of c.self.inside.last) fresh;
        ready = new_ready own routines c.self.inside.state (step_of c.self.inside.last) valid fresh;
      };
    }
