-- What first fit does at each byte, and over a word.
use Rattle.std.proofs.Common.{◌≡◌, ℕ, zero, suc, ◌<◌, ◌≤◌, ◌+◌, Bool, true, false, eqb, ltb, not, cond, ◌||◌, ◌⊎◌, inl}
use Rattle.std.proofs.Common.{inr, one-add, List, [], ◌∷◌, map, drop, refl, ap, arith}
use Rattle.std.proofs.lemmas.Bool.{ltb-true, ltb-false}
use Rattle.paw_base.specs.Bytes.{Bytes, Text}
use Rattle.paw_wrap.specs.FirstFit.{space, line_feed, word_length, breaks_from}

pub left_true : (x y : Bool) → y ≡ false → x || y ≡ true → x ≡ true
left_true true y e h = refl
left_true false y e h = absurd (cc)

pub breaks_from-empty : (w at before : ℕ) → breaks_from w at before [] ≡ []
unfolding breaks_from
breaks_from-empty w at before = refl

-- A byte ends its line, or a space is a break, or the line goes on after it.
pub data NextBreak (w at before b : ℕ) (bs : Bytes) : Type 0 where
  ends_line : eqb b line_feed ≡ true → breaks_from w at before (b ∷ bs) ≡ breaks_from w (suc at) 0 bs
      → NextBreak w at before b bs
  breaks : eqb b line_feed ≡ false → eqb b space ≡ true → w < before + 1 + word_length bs
      → breaks_from w at before (b ∷ bs) ≡ at ∷ breaks_from w (suc at) 0 bs → NextBreak w at before b bs
  goes_on : eqb b line_feed ≡ false → (eqb b space ≡ true → before + 1 + word_length bs ≤ w)
      → breaks_from w at before (b ∷ bs) ≡ breaks_from w (suc at) (suc before) bs → NextBreak w at before b bs

pub step : (w at before b : ℕ) (bs : Bytes) → NextBreak w at before b bs
unfolding breaks_from
step w at before b bs =
    elim (eqb b line_feed) as (λ v. eqb b line_feed ≡ v → NextBreak w at before b bs) [
      | true ↦ λ e. ends_line e (rw e refl)
      | false ↦ λ e. elim (eqb b space) as (λ v. eqb b space ≡ v → NextBreak w at before b bs) [
        | true ↦ λ f. elim (ltb w (before + 1 + word_length bs)) as (λ v. ltb w (before + 1 + word_length bs) ≡ v → NextBreak w at before b bs) [
          | true ↦ λ g. breaks e f (ltb-true _ _ g) (rw (e, f, g) refl)
          | false ↦ λ g. goes_on e (λ _. ltb-false _ _ g) (rw (e, f, g) refl)
        ] refl
        | false ↦ λ f. goes_on e (λ t. let never = t in cc) (rw (e, f) refl)
      ] refl
    ] refl

-- Offsets move with the offset at which the text begins.
pub breaks_from-suc : (w at before : ℕ) (text : Text) → breaks_from w (suc at) before text ≡ map suc (breaks_from w at before text)
unfolding breaks_from
breaks_from-suc w at before [] = refl
breaks_from-suc w at before (b ∷ bs) =
    elim (eqb b line_feed) as (λ v. eqb b line_feed ≡ v → breaks_from w (suc at) before (b ∷ bs) ≡ map suc (breaks_from w at before (b ∷ bs))) [
      | true ↦ λ e. rw e (breaks_from-suc w (suc at) 0 bs)
      | false ↦ λ e. elim (eqb b space) as (λ v. eqb b space ≡ v → breaks_from w (suc at) before (b ∷ bs) ≡ map suc (breaks_from w at before (b ∷ bs))) [
        | true ↦ λ f. elim (ltb w (before + 1 + word_length bs)) as
            (λ v. ltb w (before + 1 + word_length bs) ≡ v → breaks_from w (suc at) before (b ∷ bs) ≡ map suc (breaks_from w at before (b ∷ bs))) [
              | true ↦ λ g. rw (e, f, g) (ap (λ (ps : List ℕ). suc at ∷ ps) (breaks_from-suc w (suc at) 0 bs))
              | false ↦ λ g. rw (e, f, g) (breaks_from-suc w (suc at) (suc before) bs)
            ] refl
        | false ↦ λ f. rw (e, f) (breaks_from-suc w (suc at) (suc before) bs)
      ] refl
    ] refl

-- A byte that ends a word, or one more byte of it.
pub word_length-cons : (b : ℕ) (bs : Bytes) → (word_length (b ∷ bs) ≡ 0)
    ⊎ ((eqb b space ≡ false) × (eqb b line_feed ≡ false) × (word_length (b ∷ bs) ≡ suc (word_length bs)))
word_length-cons b bs =
    elim (eqb b space) as (λ v. eqb b space ≡ v → (cond (not (v || eqb b line_feed)) (1 + word_length bs) 0 ≡ 0)
    ⊎ ((v ≡ false) × (eqb b line_feed ≡ false) × (cond (not (v || eqb b line_feed)) (1 + word_length bs) 0 ≡ suc (word_length bs)))) [
      | true ↦ λ e. inl refl
      | false ↦ λ e. elim (eqb b line_feed) as (λ v. (cond (not v) (1 + word_length bs) 0 ≡ 0)
          ⊎ ((false ≡ false) × (v ≡ false) × (cond (not v) (1 + word_length bs) 0 ≡ suc (word_length bs)))) [
            | true ↦ inl refl
            | false ↦ inr (refl, refl, one-add _)
          ]
    ] refl

-- No byte of a word is a break.
pub breaks_from-word : (w at before n at' before' : ℕ) (text : Text) → at' ≡ at + n → before' ≡ before + n → n ≤ word_length text
    → breaks_from w at before text ≡ breaks_from w at' before' (drop n text)
unfolding breaks_from
breaks_from-word w at before zero at' before' text e f h =
    let a : at' ≡ at = omega (arith, e) in
    let k : before' ≡ before = omega (arith, f) in
    rw (a, k) refl
breaks_from-word w at before (suc n) at' before' [] e f h = absurd (omega (arith, h))
breaks_from-word w at before (suc n) at' before' (b ∷ bs) e f h =
    elim (word_length-cons b bs) as (λ _. breaks_from w at before (b ∷ bs) ≡ breaks_from w at' before' (drop n bs)) [
      | inl none ↦ absurd (omega (arith, h, none))
      | inr more ↦ rw (more.1, more.0)
          (breaks_from-word w (suc at) (suc before) n at' before' bs (omega (arith, e)) (omega (arith, f)) (omega (arith, h, more.2)))
    ]
