-- What a session keeps of a player.
use Rattle.paw_play.proofs.Names.{◌≡◌, ℕ, List, [], ◌∷◌, ◌++◌, refl, sym, ap, ◌∙◌, length, reverse, Text, Texts, Prompt, StepRow, PlayerView, run_at, PlaysTo, StandsClosed, Step, Digests, Shown, frames_at, machine_kept, last_piece, State, Frame, kept_bytes, IsKept, EndingOf, IsStanding, seat_state, Story, Frames}
use Rattle.paw_effects.specs.declared.act.Prompt.TheVariants as prompt
use Rattle.paw_turn.specs.declared.Step.TheVariants as step
use Rattle.paw_play.proofs.Walking.{on_waits}

pub last_more : (pieces : Texts) (piece : Text) → last_piece (pieces ++ piece ∷ []) ≡ piece
last_more [] piece = refl
last_more (p ∷ []) piece = refl
last_more (p ∷ q ∷ pieces) piece = last_more (q ∷ pieces) piece

-- The state of a player's parts, with these frames and a piece of this length.
abbrev parts : {F : Type 0} → ℕ → Prompt → PlayerView F → Frames → ℕ → State
parts events p next frames n = record { world = next.world; frames = frames; pending = next.pending; prompt = p; events = events; piece = n }

-- What a session shows of them, by the path of the machine and the last piece that was closed.
shown_at : {F : Type 0} (digests : Digests) (events : ℕ) (p : Prompt) (path : List Frame) (next : PlayerView F) (pieces : Texts) →
    machine_kept next.machine ≡ frames_at path next.machine.turning →
    Shown digests (kept_bytes (parts events p next (machine_kept next.machine) (length next.piece))) next.piece
    ≡ Shown digests (kept_bytes (parts events p next (frames_at path next.machine.turning) (length (last_piece (pieces ++ next.piece ∷ [])))))
    (last_piece (pieces ++ next.piece ∷ []))
shown_at digests events p path next pieces is =
    ap (λ (k : Frames). Shown digests (kept_bytes (parts events p next k (length next.piece))) next.piece) is
    ∙ ap (λ (q : Text). Shown digests (kept_bytes (parts events p next (frames_at path next.machine.turning) (length q))) q)
    (sym (last_more pieces next.piece))

-- A line that brings a piece leads to a player whose session keeps the reading.
pub step_kept : {F : Type 0} (g : Story) (digests : Digests) (events : ℕ) (whole : EndingOf) (s : Step) (next : PlayerView F) (pieces : Texts)
    (traces : List (List StepRow)) → IsStanding s → next.last ≡ s →
    StandsClosed s next.machine → PlaysTo g whole s next pieces traces → IsKept digests events (whole []) (Shown digests (seat_state events next) next.piece)
step_kept g digests events whole (step.Waits p) next pieces traces shows last stands plays =
    rw (plays.1.1 [] ∙ on_waits g p next.machine (run_at next (pieces ++ next.piece ∷ []) (traces ++ plays.0 ∷ []) []) stands, last)
    (record { played = tt; shown = shown_at digests events p (reverse next.machine.frames) next pieces refl })
step_kept g digests events whole step.Ended next pieces traces shows last stands plays =
    let closed = ap (λ fs. frames_at (reverse fs) next.machine.turning) stands.frames in
    rw (plays.1.1 [], last) (record { played = refl; shown = shown_at digests events prompt.Over [] next pieces closed })
step_kept g digests events whole (step.Spent kind) next pieces traces shows last stands plays = absurd shows
step_kept g digests events whole (step.TooDeep u) next pieces traces shows last stands plays = absurd shows
