-- Numbers that stop at the greatest of 32 bits add and multiply as all numbers do, and then stop.
use Rattle.std.proofs.Common.{◌≡◌, ◌≤◌, ◌<◌, inl, inr, ℕ, zero, suc, ◌+◌, ◌*◌, ◌-◌, ◌^◌, min, max, List, [], ◌∷◌}
use Rattle.std.proofs.Common.{length, take, get_or, refl, sym, ap, ◌∙◌, arith}
use Rattle.std.specs.Prelude.{sum_by}
use Rattle.std.proofs.Math.Nat.{le-mul_of_pos_right, mul_comm, mul-zero}
use Rattle.std.proofs.lemmas.Bool.{cases_lt}
use Rattle.std.proofs.lemmas.List.Sums.{sum_by-cons, sum_by_more}
use Rattle.paw_check.specs.inner.Capped.{in_32_bits}

pub capped_again : (a : ℕ) → in_32_bits (in_32_bits a) ≡ in_32_bits a
capped_again a = omega arith

pub capped_max : (a b : ℕ) → max (in_32_bits a) (in_32_bits b) ≡ in_32_bits (max a b)
capped_max a b = omega arith

-- Numbers that are the same but for the cap give the same sums, and the same products.
pub add_alike : (a b c d : ℕ) → in_32_bits a ≡ in_32_bits b → in_32_bits c ≡ in_32_bits d → in_32_bits (a + c) ≡ in_32_bits (b + d)
add_alike a b c d h k = omega (arith, h, k)

below_product : (a b : ℕ) → a < 2 ^ 32 - 1 → in_32_bits (in_32_bits a * b) ≡ in_32_bits (a * b)
below_product a b h = ap (λ (n : ℕ). in_32_bits (n * b)) (omega (arith, h))

above_product : (a b : ℕ) → 2 ^ 32 - 1 ≤ a → in_32_bits (in_32_bits a * b) ≡ in_32_bits (a * b)
above_product a zero h = ap in_32_bits (mul-zero (in_32_bits a) ∙ sym (mul-zero a))
above_product a (suc b) h =
    let first : a ≤ a * suc b = le-mul_of_pos_right a (omega arith) in
    let at : in_32_bits a ≤ in_32_bits a * suc b = le-mul_of_pos_right (in_32_bits a) (omega arith) in
    omega (arith, h, first, at)

pub capped_product : (a b : ℕ) → in_32_bits (in_32_bits a * b) ≡ in_32_bits (a * b)
capped_product a b = elim (cases_lt a (2 ^ 32 - 1)) [
  | inl low ↦ below_product a b low
  | inr high ↦ above_product a b high
]

pub product_alike : (a b c d : ℕ) → in_32_bits a ≡ in_32_bits b → in_32_bits c ≡ in_32_bits d → in_32_bits (a * c) ≡ in_32_bits (b * d)
product_alike a b c d h k =
    sym (capped_product a c) ∙ ap (λ (n : ℕ). in_32_bits (n * c)) h ∙ capped_product b c
    ∙ ap in_32_bits (mul_comm b c) ∙ sym (capped_product c b) ∙ ap (λ (n : ℕ). in_32_bits (n * b)) k ∙ capped_product d b
    ∙ ap in_32_bits (mul_comm d b)

-- Sums of such numbers are the same but for the cap.
pub sum_alike : {X : Type 0} (f h : X → ℕ) (xs : List X) → ((x : X) → in_32_bits (f x) ≡ in_32_bits (h x))
    → in_32_bits (sum_by f xs) ≡ in_32_bits (sum_by h xs)
sum_alike f h [] same = refl
sum_alike f h (x ∷ xs) same =
    ap in_32_bits (sum_by-cons f x xs) ∙ add_alike (f x) (h x) _ _ (same x) (sum_alike f h xs same)
    ∙ ap in_32_bits (sym (sum_by-cons h x xs))

-- A sum that goes on by one number.
pub one_more : {X : Type 0} (f : X → ℕ) (xs : List X) (i : ℕ) (d : X) (s t : ℕ) → i < length xs
    → s ≡ in_32_bits (sum_by f (take i xs)) → t ≡ in_32_bits (f (get_or xs i d)) → min (s + t) (2 ^ 32 - 1) ≡ in_32_bits (sum_by f (take (i + 1) xs))
one_more f xs i d s t within so next =
    let more = sum_by_more f xs i d within in
    omega (arith, so, next, more)

-- One that goes on by nothing.
pub none_more : {X : Type 0} (f : X → ℕ) (xs : List X) (i : ℕ) (d : X) (s : ℕ) → i < length xs
    → s ≡ in_32_bits (sum_by f (take i xs)) → f (get_or xs i d) ≡ 0 → s ≡ in_32_bits (sum_by f (take (i + 1) xs))
none_more f xs i d s within so next =
    let more = sum_by_more f xs i d within in
    omega (arith, so, next, more)

-- A number that is one with the cap.
pub from_capped : (a b : ℕ) → a ≡ in_32_bits b → in_32_bits a ≡ in_32_bits b
from_capped a b h = omega (arith, h)

-- What is taken in all passes.
pub taken_is : (o d s e t r : ℕ) → r ≡ in_32_bits ((1 + o * d) * s) → d ≡ in_32_bits e → s ≡ in_32_bits t → r ≡ in_32_bits ((1 + o * e) * t)
taken_is o d s e t r so first second =
    so ∙ product_alike _ _ _ _ (add_alike 1 1 _ _ refl (product_alike o o d e refl (from_capped d e first))) (from_capped s t second)
