-- Slices of slices, and what stands before the first byte of a kind.
use Rattle.std.proofs.Common.{◌≡◌, ℕ, zero, suc, ◌<◌, ◌≤◌, ◌+◌, ◌-◌, Bool, true, false, not, cond, List, [], ◌∷◌}
use Rattle.std.proofs.Common.{length, take, drop, get_or, refl}
use Rattle.std.proofs.Common.{sym, ap, ◌∙◌, one-add, arith}
use Rattle.std.specs.List.{slice_range, before_first, position_or_len}
use Rattle.std.proofs.lemmas.List.{take-take, drop-take, drop-drop, drop_more}
use Rattle.paw_base.specs.Bytes.{Bytes}

pub take-slice_range : (s : List ℕ) (a b n : ℕ) → n ≤ b - a → take n (slice_range s a b) ≡ slice_range s a (a + n)
take-slice_range s a b n h =
    let e : a + n - a ≡ n = omega arith in
    take-take n (b - a) (drop a s) h ∙ sym (ap (λ k. take k (drop a s)) e)

pub drop-slice_range : (s : List ℕ) (a b n : ℕ) → n ≤ b - a → drop n (slice_range s a b) ≡ slice_range s (a + n) b
drop-slice_range s a b n h =
    let e : b - a ≡ n + (b - (a + n)) = omega arith in
    ap (λ k. drop n (take k (drop a s))) e ∙ drop-take n (b - (a + n)) (drop a s) ∙ ap (take (b - (a + n))) (drop-drop n a s)

pub slice_range-slice_range : (s : List ℕ) (a b m n : ℕ) → m ≤ n → n ≤ b - a → slice_range (slice_range s a b) m n ≡ slice_range s (a + m) (a + n)
slice_range-slice_range s a b m n h g =
    let e : a + m + (n - m) ≡ a + n = omega arith in
    ap (take (n - m)) (drop-slice_range s a b m (omega arith)) ∙ take-slice_range s (a + m) b (n - m) (omega arith) ∙ ap (slice_range s (a + m)) e

pub before_first-cons : (p : ℕ → Bool) (b : ℕ) (bs : Bytes) → p b ≡ false → before_first p (b ∷ bs) ≡ b ∷ before_first p bs
before_first-cons p b bs e = rw (e, one-add) refl

pub before_first-drop : (p : ℕ → Bool) (s : List ℕ) (n : ℕ) → n ≤ position_or_len p s → before_first p (drop n s) ≡ drop n (before_first p s)
before_first-drop p s zero h = refl
before_first-drop p [] (suc n) h = refl
before_first-drop p (x ∷ xs) (suc n) h =
    elim (p x) as (λ v. suc n ≤ cond (not v) (1 + position_or_len p xs) 0
    → before_first p (drop n xs) ≡ drop (suc n) (take (cond (not v) (1 + position_or_len p xs) 0) (x ∷ xs))) [
      | true ↦ λ g. absurd (omega arith)
      | false ↦ λ g. rw one-add (before_first-drop p xs n (omega arith))
    ] h

-- One byte, and two.
pub slice_range-one : (s : List ℕ) (n : ℕ) → n < length s → slice_range s n (n + 1) ≡ get_or s n 0 ∷ []
slice_range-one s n h =
    let e : n + 1 - n ≡ 1 = omega arith in
    ap (λ k. take k (drop n s)) e ∙ ap (take 1) (drop_more s n 0 h)

pub slice_range-two : (s : List ℕ) (n : ℕ) → n + 1 < length s → slice_range s n (n + 1 + 1) ≡ get_or s n 0 ∷ get_or s (n + 1) 0 ∷ []
slice_range-two s n h =
    let e : n + 1 + 1 - n ≡ 2 = omega arith in
    let l : n < length s = omega arith in
    ap (λ k. take k (drop n s)) e ∙ ap (take 2) (drop_more s n 0 l) ∙ ap (λ (rest : List ℕ). get_or s n 0 ∷ take 1 rest) (drop_more s (n + 1) 0 h)
