-- The first token of a line.
use Rattle.std.proofs.Common.{◌≡◌, ℕ, zero, suc, ◌<◌, ◌≤◌, ◌+◌, ◌-◌, ◌≢◌, true, false, not, cond, ◌||◌, eqb, ltb}
use Rattle.std.proofs.Common.{[], ◌∷◌, filter, length, take}
use Rattle.std.proofs.Common.{drop, get_or, refl, sym, ap, ◌∙◌, inl, inr, one-add, arith}
use Rattle.std.specs.List.{before_first, list_all, position_or_len, prefix_len, slice_split, onto_first, slice_range}
use Rattle.std.proofs.lemmas.Bool.{eqb-true, lt-ltb, or_right, cases_lt}
use Rattle.std.proofs.lemmas.List.{length-take-le, take_rest, drop-drop}
use Rattle.std.proofs.lemmas.List.Sums.{prefix_len-le-length, prefix_len-drop_no, prefix_len-drop_all, prefix_len_stops}
use Rattle.paw_base.specs.Bytes.{Bytes, Token, Tokens, Line}
use Rattle.paw_lex.specs.Tokens.{is_blank, tokens_of}
use Rattle.paw_lex.specs.inner.Tokens.{ends_token}
use Rattle.paw_lex.proofs.Slices.{before_first-cons, drop-slice_range, slice_range-slice_range, take-slice_range}

abbrev pieces : Bytes → Tokens
pieces s = slice_split is_blank (before_first (λ b. eqb b 59) s)

abbrev full : Tokens → Tokens
full = filter (λ piece. ltb 0 (length piece))

pieces-semicolon : (b : ℕ) (bs : Bytes) → eqb b 59 ≡ true → pieces (b ∷ bs) ≡ [] ∷ []
pieces-semicolon b bs e = rw e refl

not_semicolon : (b : ℕ) → is_blank b ≡ true → eqb b 59 ≡ false
not_semicolon b e =
    elim (eqb b 59) as (λ v. eqb b 59 ≡ v → v ≡ false) [
      | true ↦ λ f. let g : is_blank 59 ≡ true = rw (eqb-true b 59 f) at e in cc
      | false ↦ λ f. refl
    ] refl

pieces-blank : (b : ℕ) (bs : Bytes) → is_blank b ≡ true → pieces (b ∷ bs) ≡ [] ∷ pieces bs
pieces-blank b bs e = ap (slice_split is_blank) (before_first-cons (λ c. eqb c 59) b bs (not_semicolon b e)) ∙ rw e refl

pieces-other : (b : ℕ) (bs : Bytes) → eqb b 59 ≡ false → is_blank b ≡ false → pieces (b ∷ bs) ≡ onto_first b (pieces bs)
pieces-other b bs e f = ap (slice_split is_blank) (before_first-cons (λ c. eqb c 59) b bs e) ∙ rw f refl

pub tokens_of-blank : (b : ℕ) (bs : Bytes) → is_blank b ≡ true → tokens_of (b ∷ bs) ≡ tokens_of bs
unfolding tokens_of
tokens_of-blank b bs e = ap full (pieces-blank b bs e)

-- Blanks at the front make no token.
pub past_blanks : (s : Line) (n : ℕ) → n ≤ prefix_len is_blank s → tokens_of (drop n s) ≡ tokens_of s
past_blanks s zero h = refl
past_blanks [] (suc n) h = refl
past_blanks (b ∷ bs) (suc n) h =
    elim (is_blank b) as (λ v. is_blank b ≡ v → suc n ≤ cond v (1 + prefix_len is_blank bs) 0 → tokens_of (drop n bs) ≡ tokens_of (b ∷ bs)) [
      | true ↦ λ e g. past_blanks bs n (omega arith) ∙ sym (tokens_of-blank b bs e)
      | false ↦ λ e g. absurd (omega arith)
    ] refl h

all_blank : (s : Line) → list_all is_blank (take (prefix_len is_blank s) s) ≡ true
all_blank [] = refl
all_blank (b ∷ bs) =
    elim (is_blank b) as (λ v.
    is_blank b ≡ v → list_all is_blank (take (cond v (1 + prefix_len is_blank bs) 0) (b ∷ bs)) ≡ true) [
      | true ↦ λ e. rw (one-add, e) (all_blank bs)
      | false ↦ λ e. refl
    ] refl

-- The blanks at the front are blanks.
pub blanks_first : (s : Line) (n : ℕ) → n ≡ prefix_len is_blank s → list_all is_blank (take n s) ≡ true
blanks_first s n e = ap (λ k. list_all is_blank (take k s)) e ∙ all_blank s

-- They stand in the bytes that are looked at.
pub blanks_at : (s : Bytes) (from to n : ℕ) → n ≤ to - from
    → list_all is_blank (take n (slice_range s from to)) ≡ true → list_all is_blank (slice_range s from (from + n)) ≡ true
blanks_at s from to n h e = ap (list_all is_blank) (sym (take-slice_range s from to n h)) ∙ e

-- Where neither a blank nor a token stands, there is nothing or a `;`.
pub no_token : (s : Line) → prefix_len is_blank s ≡ 0 → position_or_len ends_token s ≡ 0 → tokens_of s ≡ []
unfolding tokens_of
no_token [] h g = refl
no_token (b ∷ bs) h g =
    elim (is_blank b) as (λ v. is_blank b ≡ v → cond v (1 + prefix_len is_blank bs) 0 ≡ 0
    → cond (not (v || eqb b 59)) (1 + position_or_len ends_token bs) 0 ≡ 0 → full (pieces (b ∷ bs)) ≡ []) [
      | true ↦ λ e i j. absurd (omega arith)
      | false ↦ λ e i j. elim (eqb b 59) as (λ w. eqb b 59 ≡ w → cond (not w) (1 + position_or_len ends_token bs) 0 ≡ 0 → full (pieces (b ∷ bs)) ≡ []) [
        | true ↦ λ f k. ap full (pieces-semicolon b bs f)
        | false ↦ λ f k. absurd (omega arith)
      ] refl j
    ] refl h g

-- The first piece has n bytes, and the pieces after it stand from there on.
record Begins (s : Line) (n : ℕ) : Type 0 where
  behind : Tokens
  first : pieces s ≡ take n s ∷ behind
  rest : full behind ≡ tokens_of (drop n s)

begins : (s : Line) → Begins s (position_or_len ends_token s)
unfolding tokens_of
begins [] = record { behind = []; first = refl; rest = refl }
begins (b ∷ bs) =
    let again = begins bs in
    elim (eqb b 59) as (λ w. eqb b 59 ≡ w → Begins (b ∷ bs) (cond (not (is_blank b || w)) (1 + position_or_len ends_token bs) 0)) [
      | true ↦ λ f.
          rw (or_right (is_blank b) true refl)
          (record { behind = []; first = pieces-semicolon b bs f; rest = sym (ap full (pieces-semicolon b bs f)) })
      | false ↦ λ f. elim (is_blank b) as (λ v. is_blank b ≡ v → Begins (b ∷ bs) (cond (not (v || false)) (1 + position_or_len ends_token bs) 0)) [
        | true ↦ λ e. record { behind = pieces bs; first = pieces-blank b bs e; rest = sym (tokens_of-blank b bs e) }
        | false ↦ λ e. rw one-add (record {
          behind = again.behind;
          first = pieces-other b bs f e ∙ ap (onto_first b) again.first;
          rest = again.rest;
        })
      ] refl
    ] refl

pub token_first : (s : Line) (n : ℕ) → n ≡ position_or_len ends_token s → 0 < n → tokens_of s ≡ take n s ∷ tokens_of (drop n s)
unfolding tokens_of
token_first s n e h =
    let here : Begins s n = rw e (begins s) in
    let within : n ≤ length s = omega (arith, prefix_len-le-length (λ b. not (ends_token b)) s) in
    ap full here.first ∙ rw (length-take-le n s within, lt-ltb 0 n h) (ap (λ (ts : Tokens). take n s ∷ ts) here.rest)

no_more_blanks : (s : Line) (n : ℕ) → n ≡ prefix_len is_blank s → prefix_len is_blank (drop n s) ≡ 0
no_more_blanks s n e =
    elim (cases_lt n (length s)) [
      | inl h ↦ prefix_len-drop_no is_blank s n 0 h (ap (λ k. is_blank (get_or s k 0)) e ∙ prefix_len_stops is_blank s 0 (omega arith))
      | inr h ↦ prefix_len-drop_all is_blank s n h
    ]

-- First there are n blanks, and after them k bytes of a token.
pub none_left : (s : Line) (n k : ℕ) → n ≡ prefix_len is_blank s → k ≡ position_or_len ends_token (take (length s - n) (drop n s)) → k ≡ 0 → tokens_of s ≡ []
none_left s n k e f z =
    let here : position_or_len ends_token (drop n s) ≡ 0 = ap (position_or_len ends_token) (sym (take_rest s n)) ∙ sym f ∙ z in
    sym (past_blanks s n (omega arith)) ∙ no_token (drop n s) (no_more_blanks s n e) here

pub one_left : (s : Line) (n k : ℕ) → n ≡ prefix_len is_blank s → k ≡ position_or_len ends_token (take (length s - n) (drop n s)) → k ≢ 0
    → tokens_of s ≡ slice_range s n (n + k) ∷ tokens_of (drop (n + k) s)
one_left s n k e f z =
    let here : k ≡ position_or_len ends_token (drop n s) = f ∙ ap (position_or_len ends_token) (take_rest s n) in
    let long : n + k - n ≡ k = omega arith in
    sym (past_blanks s n (omega arith))
    ∙ token_first (drop n s) k here (omega arith)
    ∙ rw (drop-drop k n s) (ap (λ (token : Token). token ∷ tokens_of (drop (n + k) s)) (sym (ap (λ m. take m (drop n s)) long)))

pub next_token_at : (s : Bytes) (from to m n : ℕ) → m ≤ n → n ≤ to - from
    → tokens_of (slice_range s from to) ≡ slice_range (slice_range s from to) m n ∷ tokens_of (drop n (slice_range s from to))
    → tokens_of (slice_range s from to) ≡ slice_range s (from + m) (from + n) ∷ tokens_of (slice_range s (from + n) to)
next_token_at s from to m n l h e =
    e
    ∙ ap (λ (token : Token). token ∷ tokens_of (drop n (slice_range s from to))) (slice_range-slice_range s from to m n l h)
    ∙ ap (λ (rest : Line). slice_range s (from + m) (from + n) ∷ tokens_of rest) (drop-slice_range s from to n h)
