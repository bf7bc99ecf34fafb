-- How a walk shows pieces: each as it is, or after the text of its steps.
use Rattle.paw_play.proofs.Names.{◌≡◌, ℕ, zero, suc, List, [], ◌∷◌, ◌++◌, Option, Some, None, refl, sym, ap, ◌∙◌, length, take, arith, append_assoc, length-append, append-nil, ◌-◌, flat_map, IfNone, concat, Text, Texts, STEP_LIMIT, KeptSteps, kept_steps, Standing, InShow, with_shown, Prompt, Frame, Run, StepRow, Halt, WaitsAt, Halted, PlayerView, run_at, Step, PlayEnd, step_line, more_line, steps_text, traced_pieces, ShowSteps, Plain, Stepped, kept_text, seat_text, HaveSteps, NotesShown, shown_pieces, shown_run, shown_ending, IsStanding, end_if_no_piece, take-take, concat-append}
use Rattle.paw_turn.specs.declared.Step.TheVariants as step

-- ---- texts ----

joined_more : (pieces : Texts) (piece : Text) → concat (pieces ++ piece ∷ []) ≡ concat pieces ++ piece
joined_more pieces piece = concat-append pieces (piece ∷ []) ∙ ap (λ t. concat pieces ++ t) (append-nil piece)

-- What is kept of steps is shown as the steps are.
kept_shown : (k : KeptSteps) (steps : List StepRow) → k.most ≡ STEP_LIMIT → k ≡ kept_steps k.most steps → kept_text k ≡ steps_text steps
kept_shown k steps keeps e =
    ap kept_text (e ∙ ap (λ n. kept_steps n steps) keeps) ∙ ap (λ xs. flat_map step_line xs ++ more_line (length steps - STEP_LIMIT)) (take-take STEP_LIMIT STEP_LIMIT steps (omega arith))

-- One piece more.
traced_more : (pieces : Texts) (traces : List (List StepRow)) (piece : Text) (steps : List StepRow) → length traces ≡ length pieces →
    traced_pieces (pieces ++ piece ∷ []) (traces ++ steps ∷ []) ≡ traced_pieces pieces traces ++ (steps_text steps ++ piece) ∷ []
traced_more [] [] piece steps each = refl
traced_more [] (t ∷ traces) piece steps each = absurd (omega (arith, each))
traced_more (p ∷ pieces) [] piece steps each = absurd (omega (arith, each))
traced_more (p ∷ pieces) (t ∷ traces) piece steps each =
    ap (λ xs. (steps_text t ++ p) ∷ xs) (traced_more pieces traces piece steps (omega (arith, each)))

-- One piece more of a player.
pub pieces_more : {F : Type 0} (showing : ShowSteps) (next : PlayerView F) (pieces : Texts) (traces : List (List StepRow)) (steps : List StepRow) →
    HaveSteps showing pieces traces → NotesShown showing next.machine.steps.most → next.machine.steps ≡ kept_steps next.machine.steps.most steps →
    concat (shown_pieces showing (pieces ++ next.piece ∷ []) (traces ++ steps ∷ [])) ≡ concat (shown_pieces showing pieces traces) ++ seat_text showing next
pieces_more Plain next pieces traces steps each keeps kept = joined_more pieces next.piece
pieces_more Stepped next pieces traces steps each keeps kept =
    ap concat (traced_more pieces traces next.piece steps each) ∙ joined_more (traced_pieces pieces traces) (steps_text steps ++ next.piece)
    ∙ ap (λ t. concat (traced_pieces pieces traces) ++ (t ++ next.piece)) (sym (kept_shown next.machine.steps steps keeps kept))

-- And it has its steps.
pub steps_more : (showing : ShowSteps) (pieces : Texts) (traces : List (List StepRow)) (piece : Text) (steps : List StepRow) →
    HaveSteps showing pieces traces → HaveSteps showing (pieces ++ piece ∷ []) (traces ++ steps ∷ [])
steps_more Plain pieces traces piece steps each = tt
steps_more Stepped pieces traces piece steps each = omega (arith, length-append traces (steps ∷ []), length-append pieces (piece ∷ []), each)

-- Before the first piece there is none to show.
pub shown_none : (showing : ShowSteps) → concat (shown_pieces showing [] []) ≡ []
shown_none Plain = refl
shown_none Stepped = refl

pub steps_none : (showing : ShowSteps) → HaveSteps showing [] []
steps_none Plain = tt
steps_none Stepped = refl

-- ---- endings ----

pub waits_shown : (showing : ShowSteps) (p : Prompt) (path : List Frame) (r : Run) →
    shown_ending showing (WaitsAt p path r) ≡ WaitsAt p path (shown_run showing r)
waits_shown Plain p path r = refl
waits_shown Stepped p path r = refl

pub halts_shown : (showing : ShowSteps) (halt : Halt) (r : Run) → shown_ending showing (Halted halt r) ≡ Halted halt (shown_run showing r)
halts_shown Plain halt r = refl
halts_shown Stepped halt r = refl

-- How pieces are shown changes nothing of the lines to come.
pub same_lines : (showing : ShowSteps) (r : Run) → (shown_run showing r).events ≡ r.events
same_lines Plain r = refl
same_lines Stepped r = refl

-- The closed pieces of a run with these, as they are shown.
pub text_shown_is : (showing : ShowSteps) (r : Run) (pieces : Texts) (traces : List (List StepRow)) → r.pieces ≡ pieces → r.traces ≡ traces →
    concat (shown_run showing r).pieces ≡ concat (shown_pieces showing pieces traces)
text_shown_is Plain r pieces traces e f = ap concat e
text_shown_is Stepped r pieces traces e f = ap (λ ps. concat (traced_pieces ps r.traces)) e ∙ ap (λ ts. concat (traced_pieces pieces ts)) f

-- The text of a player's last piece comes last.
pub shown_more : {F : Type 0} (showing : ShowSteps) (next : PlayerView F) (pieces : Texts) (traces : List (List StepRow)) (steps : List StepRow) →
    HaveSteps showing pieces traces → NotesShown showing next.machine.steps.most → next.machine.steps ≡ kept_steps next.machine.steps.most steps →
    concat (shown_run showing (run_at next (pieces ++ next.piece ∷ []) (traces ++ steps ∷ []) [])).pieces
    ≡ concat (shown_pieces showing pieces traces) ++ seat_text showing next
shown_more showing next pieces traces steps each keeps kept =
    text_shown_is showing (run_at next (pieces ++ next.piece ∷ []) (traces ++ steps ∷ []) []) (pieces ++ next.piece ∷ []) (traces ++ steps ∷ []) refl refl
    ∙ pieces_more showing next pieces traces steps each keeps kept

-- A step that isn't refused brings a piece.
pub shows_piece : (found : Step) → None ≡ end_if_no_piece found → IsStanding found
shows_piece (step.Waits p) h = tt
shows_piece step.Ended h = tt
shows_piece (step.Spent kind) h = cc
shows_piece (step.TooDeep table) h = cc

-- What holds of a player that stands holds where playing goes on.
pub may_if_none : {P : Type 0} (found : Step) (o : Option PlayEnd) → o ≡ end_if_no_piece found → (IsStanding found → P) → IfNone o P
may_if_none found None e f = f (shows_piece found e)
may_if_none found (Some o) e f = tt

-- ---- one text after another ----

-- A first part of the first text.
part_of : (n : ℕ) (xs ys : Text) → (m : ℕ) × (take n xs ≡ take m (xs ++ ys))
part_of zero xs ys = (0, refl)
part_of (suc n) [] ys = (0, refl)
part_of (suc n) (x ∷ xs) ys = let k = part_of n xs ys in (suc k.0, ap (λ zs. x ∷ zs) k.1)

-- The first text, and a first part of the second.
past_part : (n : ℕ) (xs ys : Text) → (m : ℕ) × (xs ++ take n ys ≡ take m (xs ++ ys))
past_part n [] ys = (n, refl)
past_part n (x ∷ xs) ys = let k = past_part n xs ys in (suc k.0, ap (λ zs. x ∷ zs) k.1)

module _ (old : Standing) (text more : Text) where
  -- A part of the first was shown.
  pub part_before : (m : Standing) → InShow old text m → InShow old (text ++ more) m
  part_before m i = let k = part_of i.0 text more in (k.0, i.1 ∙ ap (λ t. with_shown t old) k.1)

  -- The first was shown, and the second or a part of it.
  pub both_shown : (mid new : Standing) → mid ≡ with_shown text old → new ≡ with_shown more mid → new ≡ with_shown (text ++ more) old
  both_shown mid new e f = f ∙ ap (with_shown more) e ∙ ap (λ t. record old { shown = t }) (append_assoc old.shown text more)

  pub part_after : (mid m : Standing) → mid ≡ with_shown text old → InShow mid more m → InShow old (text ++ more) m
  part_after mid m e i =
      let k = past_part i.0 text more in
      let both = ap (with_shown (take i.0 more)) e ∙ ap (λ t. record old { shown = t }) (append_assoc old.shown text (take i.0 more)) in
      (k.0, i.1 ∙ both ∙ ap (λ t. with_shown t old) k.1)
