-- The first line of a text.
use Rattle.std.proofs.Common.{◌≡◌, ℕ, ◌<◌, ◌≤◌, ◌+◌, ◌-◌, ◌⊎◌, not, eqb, [], ◌∷◌, length, take, drop, get_or}
use Rattle.std.proofs.Common.{refl, sym, ap, subst, ◌∙◌, inl, inr, arith}
use Rattle.std.specs.List.{before_first, after_first, position_or_len, slice_split, slice_range}
use Rattle.std.specs.Str.Lines.{lines, lines_of_parts, strip_carriage_return}
use Rattle.std.proofs.lemmas.Bool.{eqb-true, ne_eqb}
use Rattle.std.proofs.lemmas.List.{take-take, take_all, drop_all, get_or-take, length-take, length-drop}
use Rattle.std.proofs.lemmas.Slice.{between_is}
use Rattle.std.proofs.lemmas.List.Sums.{fails_before_first, passes_at_first, prefix_len-le-length}
use Rattle.std.proofs.lemmas.List.Splits.{slice_split_none, slice_split_first, length-slice_split}
use Rattle.paw_base.specs.Bytes.{Bytes, Line, Lines}
use Rattle.paw_lex.specs.Lines.{lines_of}
use Rattle.paw_lex.specs.inner.Lines.{IsLineEnd}
use Rattle.paw_lex.proofs.Slices.{take-slice_range, drop-slice_range, slice_range-slice_range, before_first-drop}
use Rattle.paw_lex.proofs.Slices.{slice_range-one, slice_range-two}

-- A part with parts after it is a line that ended.
pub lines_of_parts-cons : (part : Line) (parts : Lines) → 0 < length parts
    → lines_of_parts (part ∷ parts) ≡ strip_carriage_return part ∷ lines_of_parts parts
lines_of_parts-cons part [] h = absurd (omega arith)
lines_of_parts-cons part (next ∷ more) h = refl

lines-lf : (s : Bytes) → position_or_len (λ b. eqb b 10) s < length s
    → lines s ≡ strip_carriage_return (before_first (λ b. eqb b 10) s) ∷ lines (after_first (λ b. eqb b 10) s)
lines-lf s h =
    let more : 0 < length (slice_split (λ b. eqb b 10) (after_first (λ b. eqb b 10) s)) =
    omega (arith, length-slice_split (λ b. eqb b 10) (after_first (λ b. eqb b 10) s)) in
    ap lines_of_parts (slice_split_first (λ b. eqb b 10) s 0 h)
    ∙ lines_of_parts-cons (before_first (λ b. eqb b 10) s) (slice_split (λ b. eqb b 10) (after_first (λ b. eqb b 10) s)) more

-- A last line without LF is the only line.
lines-last : (s : Bytes) → 0 < length s → position_or_len (λ b. eqb b 10) s ≡ length s → lines s ≡ s ∷ []
lines-last s h e =
    ap lines_of_parts (slice_split_none (λ b. eqb b 10) s (λ k d l. fails_before_first (λ b. eqb b 10) s k d (omega arith)))
    ∙ rw (ne_eqb (length s) 0 (λ z. omega arith)) refl

pub last_line : (s : Bytes) (n : ℕ) → 0 < length s → n ≡ position_or_len (λ b. eqb b 10) s → n ≡ length s → lines s ≡ take n s ∷ lines (drop n s)
last_line s n h e f =
    lines-last s h (sym e ∙ f) ∙ sym (ap (λ (line : Line). line ∷ lines (drop n s)) (take_all n s (omega arith))
    ∙ ap (λ (rest : Bytes). s ∷ lines rest) (drop_all n s (omega arith)))

-- Before the first LF there are n bytes, and w of them without a CR at their end.
pub line_before_lf : (s : Bytes) (n w : ℕ) → n ≡ position_or_len (λ b. eqb b 10) s → n < length s → w ≤ n
    → take w (take n s) ≡ strip_carriage_return (take n s) → lines s ≡ take w s ∷ lines (drop (n + 1) s)
line_before_lf s n w e h l f =
    let here : lines s ≡ strip_carriage_return (take n s) ∷ lines (drop (n + 1) s) = rw e (lines-lf s (omega arith)) in
    here ∙ ap (λ (line : Line). line ∷ lines (drop (n + 1) s)) (sym f ∙ take-take w n s l)

pub line_end_at : (s : Bytes) (n w : ℕ) → n ≡ position_or_len (λ b. eqb b 10) s → n < length s
    → (w ≡ n) ⊎ ((w + 1 ≡ n) × (get_or (take n s) w 0 ≡ 13)) → IsLineEnd (slice_range s w (n + 1))
line_end_at s n w e h (inl q) =
    let lf : get_or s n 0 ≡ 10 = rw e (eqb-true _ 10 (passes_at_first (λ b. eqb b 10) s 0 (omega arith))) in
    inl (rw (q, slice_range-one s n h, lf) refl)
line_end_at s n w e h (inr (q, cr)) =
    let lf : get_or s n 0 ≡ 10 = rw e (eqb-true _ 10 (passes_at_first (λ b. eqb b 10) s 0 (omega arith))) in
    let cr_there : get_or s w 0 ≡ 13 = sym (get_or-take n s w 0 (omega arith)) ∙ cr in
    let both : slice_range s w (n + 1) ≡ get_or s w 0 ∷ get_or s n 0 ∷ [] =
    subst (λ k. slice_range s w (k + 1) ≡ get_or s w 0 ∷ get_or s k 0 ∷ []) q (slice_range-two s w (omega arith)) in
    inr (both ∙ rw (cr_there, lf) refl)

-- The lines that are left, where the source ends before the offset `end`.
pub lines_of-drop : (s : Bytes) (end at : ℕ) → end ≡ position_or_len (λ b. eqb b 26) s → at ≤ end → lines_of (drop at s) ≡ lines (slice_range s at end)
unfolding lines_of
lines_of-drop s end at e h =
    let text : before_first (λ b. eqb b 26) s ≡ take end s = ap (λ n. take n s) (sym e) in
    ap lines (before_first-drop (λ b. eqb b 26) s at (omega arith) ∙ ap (drop at) text ∙ sym (between_is s at end))

pub next_line : (s : Bytes) (end at line whole : ℕ) → end ≡ position_or_len (λ b. eqb b 26) s → at + whole ≤ end → line ≤ whole
    → lines (slice_range s at end) ≡ take line (slice_range s at end) ∷ lines (drop whole (slice_range s at end))
    → lines_of (drop at s) ≡ slice_range s at (at + line) ∷ lines_of (drop (at + whole) s)
next_line s end at line whole e h l cut =
    let behind : lines (drop whole (slice_range s at end)) ≡ lines_of (drop (at + whole) s) =
    ap lines (drop-slice_range s at end whole (omega arith)) ∙ sym (lines_of-drop s end (at + whole) e h) in
    lines_of-drop s end at e (omega arith)
    ∙ cut
    ∙ ap (λ (bytes : Bytes). bytes ∷ lines (drop whole (slice_range s at end))) (take-slice_range s at end line (omega arith))
    ∙ ap (λ (rest : Lines). slice_range s at (at + line) ∷ rest) behind

pub next_line_end : (s : Bytes) (end at line whole : ℕ) → end ≡ position_or_len (λ b. eqb b 26) s → at + whole ≤ end → line ≤ whole
    → IsLineEnd (slice_range (slice_range s at end) line whole) ⊎ ((line ≡ whole) × (whole ≡ length (slice_range s at end)))
    → IsLineEnd (slice_range s (at + line) (at + whole)) ⊎ ((at + line ≡ at + whole) × (lines_of (drop (at + whole) s) ≡ []))
next_line_end s end at line whole e h l (inl ended) = inl (subst IsLineEnd (slice_range-slice_range s at end line whole l (omega arith)) ended)
next_line_end s end at line whole e h l (inr (same, last)) =
    let inside : end ≤ length s = omega (arith, prefix_len-le-length (λ b. not (eqb b 26)) s) in
    let at_end : end - (at + whole) ≡ 0 = omega (arith, length-take (end - at) (drop at s), length-drop at s) in
    inr (ap (λ n. at + n) same, lines_of-drop s end (at + whole) e h ∙ ap (λ n. lines (take n (drop (at + whole) s))) at_end)
