-- Calls, and what the machine's stops say.
use Rattle.std.proofs.Common.{◌≡◌, ℕ, suc, ◌+◌, ◌≤◌, ◌<◌, Bool, true, false, List, [], ◌∷◌, ◌++◌, Option, Some, refl}
use Rattle.std.proofs.Common.{sym, ap, ◌∙◌, subst, length, arith}
use Rattle.std.specs.Prelude.{nat_le, reverse}
use Rattle.std.proofs.lemmas.Bool.Decides.{nat_tests}
use Rattle.paw_base.specs.Bytes.{Bytes, Text}
use Rattle.paw_base.specs.declared.fault.SpentKind.TheVariants as spent
use Rattle.paw_base.specs.inner.Piece.{Puts}
use Rattle.paw_base.specs.declared.limits.TheConstants.{PIECE_LIMIT, LEVEL_LIMIT}
use Rattle.paw_effects.specs.Story.{Story}
use Rattle.paw_effects.specs.declared.act.Prompt.{Prompt}
use Rattle.paw_reading.specs.declared.frames.Frame.{Frame}
use Rattle.paw_reading.specs.Run.{Run, piece_closed, text_printed}
use Rattle.paw_reading.specs.declared.halt.Halt.{Halt}
use Rattle.paw_reading.specs.declared.halt.Halt.TheVariants as halt
use Rattle.paw_reading.specs.Reading.{Halts, Out, closes_piece, halts, printing, waits, deeper}
use Rattle.paw_reading.specs.GoingOn.{on_path}
use Rattle.paw_reading.specs.inner.GoingOn.{along}
use Rattle.paw_reading.proofs.Rules.{deeper_rest, deeper_none}
use Rattle.paw_reading.proofs.Along.{along_stopped}
use Rattle.paw_process.proofs.Steps.{settled_waits}
use Rattle.paw_process.specs.inner.OpenTables.{below}
use Rattle.paw_process.specs.inner.Meaning.{going_in, SamePast}
use Rattle.paw_process.specs.inner.Moves.{Continues, loop_resolved, past_of}
use Rattle.paw_process.specs.declared.machine.TheConstants.{MOST_FRAMES}
use Rattle.paw_process.specs.declared.Turned.{Turned}
use Rattle.paw_process.specs.declared.Turned.TheVariants as turned

pub length_below : (fs : List Frame) → 0 < length fs → suc (length (below fs)) ≡ length fs
length_below [] h = absurd (omega arith)
length_below (f ∷ fs) h = refl

-- Play has ended before the piece was closed, in a run with the same past.
pub stops_halted : (g : Story) (x : Out) (t : Option Turned) (halt : Halt) (fs : List Frame) (r s : Run) → closes_piece halt ≡ false →
    t ≡ Some (turned.Halted halt) → x ≡ halts halt s → SamePast r s → Continues g x t fs r
stops_halted g x t halt fs r s unclosed e h past = rw e (unclosed, s, h, past)

-- ---- calls ----

pub call_deep : (g : Story) (fs : List Frame) (u : ℕ) (r : Run) → MOST_FRAMES ≤ length fs →
    along g fs (deeper g (length (below fs)) u r) ≡ halts (halt.TooDeep u) r
call_deep g fs u r h =
    let low : LEVEL_LIMIT ≤ length (below fs) = omega (arith, length_below fs (omega arith)) in
    ap (along g fs) (deeper_none g (length (below fs)) u r low) ∙ along_stopped g fs (Halts (halt.TooDeep u)) r

pub call_goes : (g : Story) (fs : List Frame) (u : ℕ) (r : Run) → 0 < length fs → length fs < MOST_FRAMES
    → along g fs (deeper g (length (below fs)) u r) ≡ going_in g (record { table = u; entry = 0; at = 0; acted = false } ∷ fs) r
call_goes g fs u r some low =
    let deep : length (below fs) < LEVEL_LIMIT = omega (arith, length_below fs some) in
    ap (along g fs) (deeper_rest g (length (below fs)) u r deep) ∙ rw (length_below fs some) refl

-- ---- prompts ----

pub no_fit : (r : Run) (text : Text) (go : Run → Out) → PIECE_LIMIT < length r.current + length text →
    printing text go r ≡ halts (halt.Spent spent.Text) r
no_fit r text go h =
    let t : nat_le (length r.current + length text) PIECE_LIMIT ≡ false = grind (arith, nat_tests) in rw t refl

pub fit : (r : Run) (text : Text) (go : Run → Out) → length r.current + length text ≤ PIECE_LIMIT
    → printing text go r ≡ go (text_printed text r)
fit r text go h =
    let t : nat_le (length r.current + length text) PIECE_LIMIT ≡ true = grind (arith, nat_tests) in rw t refl

-- The question doesn't fit.
pub ask_spent : (g : Story) (fs : List Frame) (text : Text) (go : Run → Out) (r : Run) →
    PIECE_LIMIT < length r.current + length text
    → loop_resolved g fs (printing text go r) ≡ halts (halt.Spent spent.Text) r
ask_spent g fs text go r h = ap (loop_resolved g fs) (no_fit r text go h) ∙ along_stopped g fs (Halts (halt.Spent spent.Text)) r

-- The question is put, and the run goes on at the prompt along the frames.
pub ask_waits : (g : Story) (fs old : List Frame) (f : Frame) (p : Prompt) (text piece : Text) (r : Run) → old ≡ f ∷ fs
    → length r.current + length text ≤ PIECE_LIMIT → piece ≡ r.current ++ text
    → loop_resolved g fs (printing text (waits g p f (past_of g fs f)) r) ≡ on_path g p 0 (reverse old) (piece_closed (record r { current = piece }))
ask_waits g fs old f p text piece r top h is =
    ap (loop_resolved g fs) (fit r text (waits g p f (past_of g fs f)) h)
    ∙ (settled_waits g fs f p (text_printed text r) ∙ rw (top, is) refl)

-- What stands where text was put or not.
pub put_no : (old new text : Bytes) (ok : Bool) → Puts old new ok text → ok ≡ false
    → PIECE_LIMIT < length old + length text
put_no old new text ok h e = rw e at h

pub put_yes : (old new text : Bytes) (ok : Bool) → Puts old new ok text → ok ≡ true
    → (new ≡ old ++ text) × (length old + length text ≤ PIECE_LIMIT)
put_yes old new text ok h e = rw e at h

-- What goes on to the same goes on.
pub goes_from : (g : Story) (x y : Out) (t : Option Turned) (fs : List Frame) (r : Run) → x ≡ y → Continues g y t fs r → Continues g x t fs r
goes_from g x y t fs r e h = subst (λ (z : Out). Continues g z t fs r) (sym e) h

pub ask_stops : (g : Story) (fs : List Frame) (text : Text) (go : Run → Out) (r : Run) (t : Option Turned) (fs' : List Frame) (s : Run)
    → t ≡ Some (turned.Halted (halt.Spent spent.Text)) → PIECE_LIMIT < length r.current + length text → SamePast s r
    → Continues g (loop_resolved g fs (printing text go r)) t fs' s
ask_stops g fs text go r t fs' s e h past =
    stops_halted g (loop_resolved g fs (printing text go r)) t (halt.Spent spent.Text) fs' s r refl e (ask_spent g fs text go r h) past
