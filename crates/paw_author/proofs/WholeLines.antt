-- The first line of a text, and lines one after another.
use Rattle.std.proofs.Common.{◌≡◌, ℕ, suc, ◌<◌, ◌≤◌, ◌+◌, ◌++◌, true, false, not, cond, eqb, [], ◌∷◌, length, take, drop}
use Rattle.std.proofs.Common.{refl, sym, ap, ◌∙◌, add-one, one-add, append_assoc, append-nil, arith}
use Rattle.std.specs.List.{position_or_len, onto_first}
use Rattle.std.proofs.lemmas.List.{take_all, drop_all}
use Rattle.paw_base.specs.Bytes.{Bytes}
use Rattle.paw_author.specs.Fragments.{Fragments, LinesInParts}
use Rattle.paw_author.specs.Parts.{line_parts}
use Rattle.paw_author.specs.FileLines.{whole_lines, with_numbers}

abbrev before_lf : Bytes → ℕ
before_lf s = position_or_len (λ b. eqb b 10) s

ended : (s : Bytes) → before_lf s < length s
    → whole_lines s ≡ take (suc (before_lf s)) s ∷ whole_lines (drop (suc (before_lf s)) s)
unfolding whole_lines
ended [] h = absurd (omega arith)
ended (b ∷ bs) h =
    elim (eqb b 10) as (λ v. cond (not v) (1 + before_lf bs) 0 < suc (length bs)
    → cond v ((b ∷ []) ∷ whole_lines bs) (onto_first b (whole_lines bs))
    ≡ take (suc (cond (not v) (1 + before_lf bs) 0)) (b ∷ bs) ∷ whole_lines (drop (suc (cond (not v) (1 + before_lf bs) 0)) (b ∷ bs))) [
      | true ↦ λ g. refl
      | false ↦ λ g. rw one-add (ap (onto_first b) (ended bs (omega arith)))
    ] h

unended : (s : Bytes) → 0 < length s → length s ≤ before_lf s → whole_lines s ≡ s ∷ []
unfolding whole_lines
unended [] h e = absurd (omega arith)
unended (b ∷ []) h e =
    elim (eqb b 10) as (λ v. 1 ≤ cond (not v) (1 + 0) 0 → cond v ((b ∷ []) ∷ []) (onto_first b []) ≡ (b ∷ []) ∷ []) [
      | true ↦ λ g. absurd (omega arith)
      | false ↦ λ g. refl
    ] e
unended (b ∷ c ∷ cs) h e =
    elim (eqb b 10) as (λ v. suc (length (c ∷ cs)) ≤ cond (not v) (1 + before_lf (c ∷ cs)) 0
    → cond v ((b ∷ []) ∷ whole_lines (c ∷ cs)) (onto_first b (whole_lines (c ∷ cs))) ≡ (b ∷ c ∷ cs) ∷ []) [
      | true ↦ λ g. absurd (omega arith)
      | false ↦ λ g. ap (onto_first b) (unended (c ∷ cs) (omega arith) (omega arith))
    ] e

-- A line that ends.
pub first_ended : (s : Bytes) (n : ℕ) → n ≡ before_lf s → n < length s → whole_lines s ≡ take (n + 1) s ∷ whole_lines (drop (n + 1) s)
first_ended s n e h = rw (add-one, e) (ended s (omega arith))

-- A last line that doesn't.
pub first_unended : (s : Bytes) (n : ℕ) → n ≡ before_lf s → 0 < length s → length s ≤ n → whole_lines s ≡ take n s ∷ whole_lines (drop n s)
unfolding whole_lines
first_unended s n e h l = rw (take_all n s l, drop_all n s l) (unended s h (omega arith))

-- One line more is read.
pub one_more : (before : LinesInParts) (x : Fragments) (file n k : ℕ) (s : Bytes)
    → whole_lines s ≡ take k s ∷ whole_lines (drop k s) → x ≡ line_parts file (n + 1) (take k s)
    → (before ++ x ∷ []) ++ with_numbers file (n + 1) (whole_lines (drop k s)) ≡ before ++ with_numbers file n (whole_lines s)
unfolding with_numbers
one_more before x file n k s e f =
    append_assoc before (x ∷ []) (with_numbers file (n + 1) (whole_lines (drop k s)))
    ∙ ap (λ (more : LinesInParts). before ++ more) (rw (e, f, add-one) refl)

-- No line is left.
pub none_left : (before : LinesInParts) (file n : ℕ) (s : Bytes) (all : LinesInParts) → length s ≡ 0
    → before ++ with_numbers file n (whole_lines s) ≡ all → before ≡ all
unfolding whole_lines with_numbers
none_left before file n [] all e f = sym (append-nil before) ∙ f
none_left before file n (b ∷ bs) all e f = absurd (omega arith)
