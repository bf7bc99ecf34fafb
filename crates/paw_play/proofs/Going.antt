-- Going on from a kept state is reading the longer list of lines.
use Rattle.paw_play.proofs.Names.{◌≡◌, ℕ, zero, suc, ◌+◌, ◌<◌, ◌≤◌, List, [], ◌∷◌, ◌++◌, refl, sym, ap, ◌∙◌, length, drop, append-nil, arith, Bytes, Lines, Text, Seed, Texts, GameLists, Valid, Story, Prompt, Frame, Run, StepRow, Ending, WaitsAt, Halted, Unended, reading, going_on_from, pieces_of, ending_with_past, with_past, without_past, Counted, pieces_of_lines, path_again, Digests, Recovered, Shown, recover, State, IsValidState, FitsFields, state_bytes, bytes_give_the_state, last_piece, state_at, IsKept, Stands, since_piece, ending_since, reading_since, ShowsState, going_on, with_lines, going_on_is_reading, past_stays, longer_reading, kept_bytes, drop_at}
use Rattle.paw_effects.specs.declared.act.Prompt.TheVariants as prompt
use Rattle.paw_reading.specs.declared.halt.Halt.TheVariants as halt

-- Where a reading stops its state follows the rules, and nothing of a piece is open; so much was read in each closed
-- piece.
pub record Settles (g : GameLists) (n : ℕ) (p : Prompt) (path : List Frame) (r : Run) : Type 0 where
  pub valid : IsValidState g (state_at n p path r)
  pub fits : FitsFields (state_at n p path r)
  pub current : r.current ≡ []
  pub read : r.read ≡ []
  pub traced : length r.traces ≡ length r.pieces

abbrev pub IsSettled : GameLists → ℕ → Ending → Type 0
IsSettled g n (WaitsAt p path r) = Settles g n p path r
IsSettled g n (Halted halt.Over r) = Settles g n prompt.Over [] r
IsSettled g n _ = Unit {0}

-- ---- a reading from one of its pieces on ----

from_last : (n : ℕ) (ps qs : Texts) → length ps ≡ suc n → drop n (ps ++ qs) ≡ last_piece ps ∷ qs
from_last n [] qs all = absurd (omega arith)
from_last zero (p ∷ []) qs all = refl
from_last (suc n) (p ∷ []) qs all = absurd (omega arith)
from_last zero (p ∷ q ∷ ps) qs all = absurd (omega arith)
from_last (suc n) (p ∷ q ∷ ps) qs all = from_last n (q ∷ ps) qs (omega arith)

last_dropped : (n : ℕ) (ps : Texts) → n < length ps → last_piece (drop n ps) ≡ last_piece ps
last_dropped n [] low = absurd (omega arith)
last_dropped zero (p ∷ ps) low = refl
last_dropped (suc n) (p ∷ []) low = absurd (omega arith)
last_dropped (suc n) (p ∷ q ∷ ps) low = last_dropped n (q ∷ ps) (omega arith)

module _ (n : ℕ) (ps : Texts) (ts : List (List StepRow)) (all : length ps ≡ suc n) (each : length ts ≡ suc n) where
  run_since : (r : Run) → since_piece n (with_past ps ts r) ≡ with_past (last_piece ps ∷ []) [] r
  run_since r =
      ap (λ q. record r { pieces = q; traces = drop (suc n) (ts ++ r.traces) }) (from_last n ps r.pieces all)
      ∙ ap (λ q. record r { pieces = last_piece ps ∷ r.pieces; traces = q }) (drop_at ts r.traces (suc n) each)

  -- An ending with closed pieces before it, from the last of those on.
  pub since_past : (e : Ending) → ending_since n (ending_with_past ps ts e) ≡ ending_with_past (last_piece ps ∷ []) [] e
  since_past (WaitsAt p path r) = ap (WaitsAt p path) (run_since r)
  since_past (Halted halt r) = ap (Halted halt) (run_since r)
  since_past Unended = refl

-- A session that keeps it keeps the whole.
pub whole_kept : (digests : Digests) (n m lines : ℕ) (e : Ending) (r : Recovered) → Counted lines e → n ≤ lines → IsKept digests m (ending_since n e) r →
    IsKept digests m e r
whole_kept digests n m lines (WaitsAt p path s) r counted few k =
    let low : n < length s.pieces = omega (arith, counted.1, ap length counted.0) in
    let same = ap (λ q. Shown digests (kept_bytes (record (state_at m p path s) { piece = length q })) q) (last_dropped n s.pieces low) in
    record { played = tt; shown = k.shown ∙ same }
whole_kept digests n m lines (Halted halt.Over s) r counted few k =
    let low : n < length s.pieces = omega (arith, counted, ap length k.played) in
    let same = ap (λ q. Shown digests (kept_bytes (record (state_at m prompt.Over [] s) { piece = length q })) q) (last_dropped n s.pieces low) in
    record { played = k.played; shown = k.shown ∙ same }
whole_kept digests n m lines _ r counted few k = absurd k.played

-- ---- going on from a state of a reading ----

-- The run with these lines to come, and this piece closed.
abbrev taken_up : Run → Text → Lines → Run
taken_up r piece fs = record r { current = []; read = []; pieces = piece ∷ []; traces = []; events = fs }

goes_from : (g : Story) (n : ℕ) (p : Prompt) (path : List Frame) (r : Run) (piece : Text) (fs : Lines) →
    going_on g (state_at n p path r) piece fs ≡ going_on_from g p path (taken_up r piece fs)
goes_from g n p path r piece fs = ap (λ (q : List Frame). going_on_from g p q (taken_up r piece fs)) (path_again path r.turning)

taken_past : (r : Run) (piece : Text) (fs : Lines) → r.current ≡ [] → r.read ≡ [] → r.events ≡ [] →
    taken_up r piece fs ≡ with_past (piece ∷ []) [] (with_lines fs (without_past r))
taken_past r piece fs current read events = rw (current, read, events) refl

all_pieces : (n : ℕ) (ps : Texts) (es : Lines) → length ps + length es ≡ suc n → es ≡ [] → length ps ≡ suc n
all_pieces n ps es count none = let c : length ps + length es ≡ suc n = count in omega (arith, rw none at c)

-- What was read in the closed pieces.
abbrev traces_of : Ending → List (List StepRow)
traces_of (WaitsAt p path r) = r.traces
traces_of (Halted halt r) = r.traces
traces_of Unended = []

module _ (g : Story) (seed : Seed) (es fs : Lines) where
  -- A reading that ended in this way ends with more lines as going on from its state and last piece does.
  abbrev pub GoesOnFrom : Ending → State → Text → Type 0
  GoesOnFrom e st piece =
      (length (pieces_of e) ≡ suc (length es)) × (length (traces_of e) ≡ suc (length es)) × (x : Ending)
      × (reading g seed (es ++ fs) ≡ ending_with_past (pieces_of e) (traces_of e) x)
      × (going_on g st piece fs ≡ ending_with_past (last_piece (pieces_of e) ∷ []) [] x)

  pub waiting_goes : (p : Prompt) (path : List Frame) (r : Run) → reading g seed es ≡ WaitsAt p path r → Settles g.game (length es) p path r →
      Counted (length es) (WaitsAt p path r) → GoesOnFrom (WaitsAt p path r) (state_at (length es) p path r) (last_piece r.pieces)
  waiting_goes p path r is k counted =
      let all = all_pieces (length es) r.pieces r.events counted.1 counted.0 in
      let goes = goes_from g (length es) p path r (last_piece r.pieces) fs
      ∙ ap (going_on_from g p path) (taken_past r (last_piece r.pieces) fs k.current k.read counted.0)
      ∙ past_stays g (last_piece r.pieces ∷ []) [] p path (with_lines fs (without_past r)) in
      (all, k.traced ∙ all, going_on_from g p path (with_lines fs (without_past r)), longer_reading g seed es fs p path r is, goes)

  over_goes : (r : Run) → reading g seed es ≡ Halted halt.Over r → Settles g.game (length es) prompt.Over [] r →
      r.events ≡ [] → Counted (length es) (Halted halt.Over r) →
      GoesOnFrom (Halted halt.Over r) (state_at (length es) prompt.Over [] r) (last_piece r.pieces)
  over_goes r is k none counted =
      let all = all_pieces (length es) r.pieces r.events counted none in
      let read = rw is at (going_on_is_reading g seed es fs) ∙ ap (Halted halt.Over) (rw (append-nil r.pieces, append-nil r.traces) refl) in
      (all, k.traced ∙ all, Halted halt.Over (with_lines fs (without_past r)), read, ap (Halted halt.Over) (taken_past r (last_piece r.pieces) fs k.current k.read none))

  ended_goes : (e : Ending) → reading g seed es ≡ e → IsSettled g.game (length es) e → Counted (length es) e →
      (digests other : Digests) (r : Recovered) (kept : IsKept digests (length es) e r)
      → (st : State) (piece : Text) → Valid g.game → IsValidState g.game st → FitsFields st → r ≡ Shown other (kept_bytes st) piece
      → (st.events ≡ length es) × GoesOnFrom e st piece
  unfolding kept_bytes
  ended_goes (WaitsAt p path s) is k counted digests other r kept st piece v keeps fits shown =
      let both : Shown other (kept_bytes st) piece ≡ Shown digests (state_bytes (state_at (length es) p path s)) (last_piece s.pieces) = sym shown
      ∙ kept.shown in
      let same : st ≡ state_at (length es) p path s = bytes_give_the_state g.game st (state_at (length es) p path s) v keeps fits k.valid k.fits cc in
      let piece_is : piece ≡ last_piece s.pieces = cc in
      rw (same, piece_is) (refl, waiting_goes p path s is k counted)
  ended_goes (Halted halt.Over s) is k counted digests other r kept st piece v keeps fits shown =
      let both : Shown other (kept_bytes st) piece ≡ Shown digests (state_bytes (state_at (length es) prompt.Over [] s)) (last_piece s.pieces) = sym shown
      ∙ kept.shown in
      let same : st ≡ state_at (length es) prompt.Over [] s = bytes_give_the_state g.game st
      (state_at (length es) prompt.Over [] s) v keeps fits k.valid k.fits cc in
      let piece_is : piece ≡ last_piece s.pieces = cc in
      rw (same, piece_is) (refl, over_goes s is k kept.played counted)
  ended_goes _ is k counted digests other r kept st piece v keeps fits shown = absurd kept.played

  -- Going on from the state that a store shows is reading the longer list.
  pub goes_on : IsSettled g.game (length es) (reading g seed es) → (bytes : Bytes) (digests : Digests) (st : State) (piece : Text) → Valid g.game
      → Stands g seed es bytes → ShowsState g.game digests bytes st piece →
      (st.events ≡ length es) × (going_on g st piece fs ≡ reading_since g seed es fs)
  goes_on settled bytes digests st piece v stands shows =
      let e : Ending = reading g seed es in
      let goes = ended_goes e refl settled (pieces_of_lines g seed es) stands.digests digests
      (recover bytes) stands.keeps st piece v shows.valid shows.fits shows.shown in
      let ps : Texts = pieces_of e in
      let ts : List (List StepRow) = traces_of e in
      (goes.0, goes.1.4 ∙ sym (ap (ending_since (length es)) goes.1.3 ∙ since_past (length es) ps ts goes.1.0 goes.1.1 goes.1.2))
