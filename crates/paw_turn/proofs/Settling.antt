-- From some phases to the whole reading.
use Rattle.std.proofs.Common.{◌≡◌, ◌≢◌, ℕ, List, [], ◌∷◌, Option, None, reverse, refl, sym, ap, ◌∙◌}
use Rattle.paw_base.specs.Bytes.{Bytes, Line, Lines, Text, Texts}
use Rattle.paw_base.proofs.Noted.{kept_none}
use Rattle.paw_base.specs.declared.words.TheConstants.{NO_WORD}
use Rattle.paw_effects.specs.Story.{Story}
use Rattle.paw_world.specs.World.{World}
use Rattle.paw_phrase.specs.Pending.{PendingLine}
use Rattle.paw_routines.specs.declared.routines.Routines.{Routines}
use Rattle.paw_effects.specs.declared.act.Prompt.{Prompt}
use Rattle.paw_effects.specs.inner.Opening.{opening_world}
use Rattle.paw_reading.specs.declared.frames.OpenLoop.{OpenLoop}
use Rattle.paw_reading.specs.Run.{Run, StepRow, piece_closed}
use Rattle.paw_reading.specs.declared.halt.Halt.{Halt}
use Rattle.paw_reading.specs.declared.halt.Halt.TheVariants as halt
use Rattle.paw_reading.specs.Turn.{Ending, Unended, AtDescribe, turns_from, phases_left, opening, reading}
use Rattle.paw_reading.specs.Turn.{going_on_from}
use Rattle.paw_reading.proofs.Ends.{ends_once, going_on_ends, goes_on_once}
use Rattle.paw_process.specs.inner.OpenTables.{OpenTables}
use Rattle.paw_process.specs.inner.OpenTables.{HasRead}
use Rattle.paw_turn.specs.declared.Step.{Step}
use Rattle.paw_turn.specs.declared.Step.TheVariants as step
use Rattle.paw_turn.specs.declared.phase.TurnStop.{TurnStop}
use Rattle.paw_turn.specs.declared.phase.TurnStop.TheVariants as stop
use Rattle.paw_turn.specs.declared.phase.Phase.TheVariants as phase
use Rattle.paw_turn.specs.declared.phase.Next.TheVariants as next
use Rattle.paw_turn.specs.declared.turn.PlayState.{PlayState}
use Rattle.paw_turn.proofs.Falling.{none_yet}
use Rattle.paw_turn.specs.inner.Player.{step_of, PlayerView, PlaysTo, PlayHalts, IsNew, run_at}
use Rattle.paw_turn.specs.inner.Phases.{Past, run_from, run_now, having_read, TurnHalts, StopsAs, PlaysAs}
use Rattle.paw_turn.specs.inner.Phases.{Plays, from_phase, from_prompt, seat_of, state_settled, opened_piece}

-- An ending that comes once is the whole's.
abbrev Once : (ℕ → Lines → Ending) → (Lines → Ending) → Type 0
Once whole total = (m : ℕ) (lines : Lines) → whole m lines ≢ Unended → whole m lines ≡ total lines

-- Where some phases of the whole end it for good, with no piece to show, it ends so.
halts : {F : Type 0} (whole : ℕ → Lines → Ending) (total : Lines → Ending) → Once whole total
    → (halt : Halt) (p : PlayerView F) (new : PlayState) (past : Past) → p.piece ≡ []
    → ((n : ℕ) (lines : Lines) → (m : ℕ) × TurnHalts halt (run_now new past lines) (whole m lines))
    → PlayHalts total halt p past.pieces past.traces
halts whole total once halt p new past none stops = (
  none,
  λ lines.
      let k = stops 0 lines in
      let e = k.1.1 in
      (k.1.0, sym (once k.0 lines (λ u. cc (e, u))) ∙ e, k.1.2.pieces, k.1.2.traces, k.1.2.events),
)

-- Where some phases of the whole stop, it stops.
settles : {F : Type 0} (g : Story) (routines : Routines F) (whole : ℕ → Lines → Ending) (total : Lines → Ending) → Once whole total
    → (s : TurnStop) (last : Step) (new : PlayState) (past : Past) → HasRead past.read new.machine
    → ((n : ℕ) (lines : Lines) → (m : ℕ) × StopsAs g n s new.machine.frames (run_now new past lines) (whole m lines))
    → PlaysTo g total (step_of s) (seat_of g.game routines (state_settled (step_of s) new) last) past.pieces past.traces
settles g routines whole total once (stop.Waits p) last new past has stops = (
  past.read,
  (
    has.steps,
    λ lines.
        let r : Run = piece_closed (run_now new past lines) in
        let k = stops (phases_left r) lines in
        sym (once k.0 lines (λ e. going_on_ends g p (reverse new.machine.frames) r (sym k.1 ∙ e))) ∙ k.1,
  ),
)
settles g routines whole total once (stop.Halted halt.Over) last new past has stops = (
  past.read,
  (
    has.steps,
    λ lines.
        let k = stops 0 lines in
        let e = k.1 in
        sym (once k.0 lines (λ u. cc (e, u))) ∙ e,
  ),
)
settles g routines whole total once (stop.Halted (halt.Spent kind)) last new past has stops =
    halts whole total once (halt.Spent kind) (seat_of g.game routines (state_settled (step.Spent kind) new) last) new past refl stops
settles g routines whole total once (stop.Halted (halt.TooDeep u)) last new past has stops =
    halts whole total once (halt.TooDeep u) (seat_of g.game routines (state_settled (step.TooDeep u) new) last) new past refl stops

-- The past of a player with these pieces, at the start of a piece.
abbrev before : Texts → List (List StepRow) → Past
before pieces traces = record { read = []; pieces = pieces; traces = traces }

-- A new player's first piece is that of the reading.
pub start_plays : {F : Type 0} (g : Story) (routines : Routines F) (old new : PlayState) (s : TurnStop) (last : Step)
    → Plays g phase.Describe old (next.Stop s) new
    → IsNew (seat_of g.game routines old last) old.surroundings.world.seed
    → PlaysTo g (reading g old.surroundings.world.seed) (step_of s) (seat_of g.game routines (state_settled (step_of s) new) (step_of s)) [] []
start_plays g routines old new s last plays fresh =
    let bytes = ap (λ (q : PendingLine). q.bytes) fresh.pending in
    let earlier = ap (λ (q : PendingLine). q.earlier) fresh.pending in
    let turning = ap (λ (m : OpenTables). m.turning) fresh.machine in
    let t = plays (before [] []) (none_yet old.machine fresh.machine) in
    settles g routines (λ m lines. from_phase g phase.Describe old m (before [] []) lines) (reading g old.surroundings.world.seed)
    (λ m lines differs.
    let h = old.surroundings in
    let same : run_now old (before [] []) lines ≡ opening g h.world.seed lines =
    opens h.world h.pending.bytes h.pending.earlier old.machine.turning h.piece lines fresh.world bytes earlier turning fresh.piece in
    ends_once g m AtDescribe (run_now old (before [] []) lines) differs ∙ ap (turns_from g AtDescribe) same)
    s (step_of s) new (having_read t.0 (before [] [])) t.1.0 t.1.1
  where
    opens : (w : World) (bytes : Bytes) (earlier : ℕ) (turning : Option OpenLoop) (piece : Text) (lines : Lines)
        → w ≡ opening_world g.game old.surroundings.world.seed → bytes ≡ [] → earlier ≡ NO_WORD
        → turning ≡ None → piece ≡ []
        → run_from w bytes earlier turning piece (before [] []) lines ≡ opening g old.surroundings.world.seed lines
    opens w bytes earlier turning piece lines world b e t p = rw (world, b, e, t, p) refl

-- A line leads from a player's prompt to the next.
pub take_plays : {F : Type 0} (g : Story) (routines : Routines F) (p : Prompt) (old new : PlayState) (line : Line) (s : TurnStop)
    → (pieces : Texts) (traces : List (List StepRow))
    → PlaysAs g (from_prompt g p (opened_piece old) line) (opened_piece old) (next.Stop s) new
    → let seat = seat_of g.game routines old (step.Waits p) in
    PlaysTo g (λ lines. going_on_from g p (reverse old.machine.frames) (run_at seat pieces traces (line ∷ lines))) (step_of s)
    (seat_of g.game routines (state_settled (step_of s) new) (step_of s)) pieces traces
take_plays g routines p old new line s pieces traces plays =
    let t = plays (before pieces traces) (record { left = refl; steps = kept_none old.machine.steps.most }) in
    let seat = seat_of g.game routines old (step.Waits p) in
    settles g routines (λ m lines. from_prompt g p (opened_piece old) line m (before pieces traces) lines)
    (λ lines. going_on_from g p (reverse old.machine.frames) (run_at seat pieces traces (line ∷ lines)))
    (λ m lines. goes_on_once g m p (reverse old.machine.frames) (run_at seat pieces traces (line ∷ lines)))
    s (step_of s) new (having_read t.0 (before pieces traces)) t.1.0 t.1.1
