-- What is left of a list from a number on.
use Rattle.std.proofs.Common.{◌≡◌, ℕ, zero, suc, ◌≤◌, List, [], ◌∷◌, Some, None, length, drop, slice_get, refl, ap}
use Rattle.std.proofs.Common.{arith}

pub drop_none : {A : Type 0} (xs : List A) (k : ℕ) → slice_get xs k ≡ None → drop k xs ≡ []
drop_none [] zero h = refl
drop_none [] (suc k) h = refl
drop_none (x ∷ xs) zero h = cc
drop_none (x ∷ xs) (suc k) h = drop_none xs k h

pub drop_some : {A : Type 0} (xs : List A) (k : ℕ) (x : A) → slice_get xs k ≡ Some x → drop k xs ≡ x ∷ drop (suc k) xs
drop_some [] zero x h = cc
drop_some [] (suc k) x h = cc
drop_some (y ∷ xs) zero x h = let e : y ≡ x = cc in ap (λ z. z ∷ xs) e
drop_some (y ∷ xs) (suc k) x h = drop_some xs k x h

pub length_none : {A : Type 0} (xs : List A) (k : ℕ) → slice_get xs k ≡ None → length xs ≤ k
length_none [] k h = omega arith
length_none (x ∷ xs) zero h = cc
length_none (x ∷ xs) (suc k) h = let low : length xs ≤ k = length_none xs k h in omega arith

pub drop_more : {A : Type 0} (xs ys : List A) (k : ℕ) (y : A) → drop k xs ≡ y ∷ ys → (slice_get xs k ≡ Some y) × (drop (suc k) xs ≡ ys)
drop_more [] ys zero y h = cc
drop_more [] ys (suc k) y h = cc
drop_more (x ∷ xs) ys zero y h = (cc, cc)
drop_more (x ∷ xs) ys (suc k) y h = drop_more xs ys k y h
