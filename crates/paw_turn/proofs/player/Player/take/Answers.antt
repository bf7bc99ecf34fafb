use Rattle.std.proofs.Common.{◌≡◌, [], ◌∷◌, reverse, ap, ◌∙◌, sym, subst}
use Rattle.paw_routines.specs.Routines.{AreAnswersOf}
use Rattle.paw_effects.specs.declared.act.Prompt.{Prompt}
use Rattle.paw_effects.specs.Story.{story_of}
use Rattle.paw_reading.specs.Bounds.{IsLine}
use Rattle.paw_reading.specs.Turn.{going_on_from}
use Rattle.paw_turn.specs.declared.Step.{Step}
use Rattle.paw_turn.specs.declared.Step.TheVariants as step
use Rattle.paw_turn.specs.declared.phase.TurnStop.{TurnStop}
use Rattle.paw_turn.specs.declared.phase.TurnStop.TheVariants as stop
use Rattle.paw_turn.specs.declared.phase.Next.TheVariants as next
use Rattle.paw_turn.specs.declared.turn.PlayState.{PlayState}
use Rattle.paw_turn.specs.inner.Player.{step_of, PlayerView, PlaysTo, run_at}
use Rattle.paw_turn.specs.inner.Phases.{PlaysAs, from_prompt, seat_of, state_settled}
use Rattle.paw_turn.proofs.Settling.{take_plays}
use Rattle.paw_turn.proofs.Standing.{bytes_each, take_seated}
use Rattle.paw_turn.proofs.player.Player.take.Goals as goal

same_prompt : (p q : Prompt) (s : TurnStop) (t : Step) → s ≡ stop.Waits p → step_of s ≡ t → t ≡ step.Waits q → p ≡ q
same_prompt p q s t is same waits = let w : step.Waits p ≡ step.Waits q = ap step_of (sym is) ∙ (same ∙ waits) in cc

pub returns-clause-meaning : goal.returns-clause-meaning
returns-clause-meaning g c X answers = λ p waits pieces traces.
    let routines = c.self.inside.rules.routines.now in
    let own_rows = subst (λ (q : PlayerView g.row.F.Denot). AreAnswersOf g.F.Fn q.routines X) (sym c.self.view_is) answers in
    let own = g.T.Tables.game c.self.inside.rules.tables.now in
    let old = c.self.inside.state in
    let new = c.take-stop.new.state in
    let s = c.take-stop.result in
    let line = c.args.line.now in
    let same = same_prompt c.in-Waits.prompt p c.self.inside.last c.args.self.now.last c.in-Waits.is
    (ap (λ (q : PlayerView g.row.F.Denot). q.last) c.self.view_is) waits in
    let From : Prompt → PlayState → Type 0 = λ q h. PlaysAs (story_of own X) (from_prompt (story_of own X) q h line) h (next.Stop s) new in
    let asked = subst (λ (q : Prompt). From q c.open_piece.new.self) same (c.take-stop.ensures.meaning X own_rows) in
    let plays = subst (λ (h : PlayState). From p h) c.open_piece.ensures.value asked in
    let Told : PlayerView g.row.F.Denot → PlayState → Type 0 = λ q h.
    PlaysTo (story_of q.game X) (λ lines. going_on_from (story_of q.game X) p (reverse q.machine.frames) (run_at q pieces traces (line ∷ lines)))
    (step_of s) (seat_of own routines h (step_of s)) pieces traces in
    rw c.step_of-2.ensures.value (subst (Told c.args.self.now) (sym c.settle.ensures.value)
    (subst (λ (q : PlayerView g.row.F.Denot). Told q (state_settled (step_of s) new)) c.self.view_is
    (take_plays (story_of own X) routines p old new line s pieces traces plays)))

pub returns-clause-seated : goal.returns-clause-seated
returns-clause-seated g c =
    let waits = sym (ap (λ (q : PlayerView g.row.F.Denot). q.last) c.self.view_is) ∙ ap step_of c.in-Waits.is in
    let line : IsLine c.args.line.now = record { short = c.requires.line; bytes = bytes_each c.args.line.now (λ i. (c.type_inv.line i).fits) } in
    take_seated g.F.Fn c.self.inside.rules.routines.now c.args.self.now (g.T.Tables.game c.self.inside.rules.tables.now)
    c.take-stop.new.state c.settle.new.self
    (step_of c.take-stop.result) c.requires.answers.0 c.in-Waits.prompt c.args.line.now c.requires.answers.1 c.requires.seated
    (ap (λ (q : PlayerView g.row.F.Denot). q.game) c.self.view_is) c.settle.ensures.value c.take-stop.ensures.stays.machine waits line
    (rw c.step_of-2.ensures.value at (returns-clause-meaning g c c.requires.answers.0 c.requires.answers.1 c.in-Waits.prompt waits [] []))
