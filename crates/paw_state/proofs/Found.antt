-- Where no fault is found.
use Rattle.std.proofs.Common.{◌≡◌, ℕ, zero, suc, ◌-◌, ◌≤◌, Bool, true, false, [], ◌∷◌, Option, Some, None, length}
use Rattle.std.proofs.Common.{take, drop, refl, sym, ap, ◌∙◌, arith}
use Rattle.std.specs.Prelude.{All, IsTrue, if◌then◌else◌}
use Rattle.std.proofs.lemmas.List.{length-take, length-drop, length-replicate, length-append, take-append-drop, take_at}
use Rattle.std.proofs.lemmas.List.{drop_at}
use Rattle.std.proofs.lemmas.List.Elements.{All-cons}
use Rattle.std.proofs.lemmas.Bool.{eqb-true}
use Rattle.paw_base.specs.Bytes.{Bytes}
use Rattle.paw_state.specs.State.{zeros, filled_with_zeros}
use Rattle.std.specs.Option.{option_or}
use Rattle.paw_state.specs.inner.Faults.{rule, first, first_not, is_zero}

pub rule_holds : (at : ℕ) (holds : Bool) → rule at holds ≡ None → holds ≡ true
rule_holds at true h = refl
rule_holds at false h = cc

pub no_rule : (at : ℕ) (holds : Bool) → holds ≡ true → rule at holds ≡ None
no_rule at holds h = rw h refl

pub no_first : (a b : Option ℕ) → option_or a b ≡ None → (a ≡ None) × (b ≡ None)
no_first None b h = (refl, h)
no_first (Some at) b h = cc

pub none_first : (a b : Option ℕ) → a ≡ None → b ≡ None → option_or a b ≡ None
none_first a b h k = rw (h, k) refl

-- ---- bytes that are so ----

pub all_so : (p : ℕ → Bool) (at : ℕ) (bytes : Bytes) → first_not p at bytes ≡ None → All (λ b. IsTrue (p b)) bytes
unfolding first_not
all_so p at [] h = λ k d low. absurd (omega (arith, low))
all_so p at (b ∷ bs) h = go (all_so p (suc at) bs) (p b) refl h
  where
    go : (first_not p (suc at) bs ≡ None → All (λ x. IsTrue (p x)) bs) → (t : Bool) → p b ≡ t
        → ◌≡◌ {A = Option ℕ} (if t then first_not p (suc at) bs else Some at) None → All (λ x. IsTrue (p x)) (b ∷ bs)
    go later true e q = All-cons (λ x. IsTrue (p x)) b bs e (later q)
    go later false e q = cc

pub none_not : (p : ℕ → Bool) (at : ℕ) (bytes : Bytes) → All (λ b. IsTrue (p b)) bytes → first_not p at bytes ≡ None
unfolding first_not
none_not p at [] h = refl
none_not p at (b ∷ bs) h =
    let e : p b ≡ true = h 0 0 (omega arith) in
    rw e (none_not p (suc at) bs (λ k d low. h (suc k) d (omega (arith, low))))

-- ---- zeros ----

pub zeros_are : (at : ℕ) (bytes : Bytes) → first_not is_zero at bytes ≡ None → bytes ≡ zeros (length bytes)
unfolding first_not zeros
zeros_are at [] h = refl
zeros_are at (b ∷ bs) h = go (zeros_are (suc at) bs) (is_zero b) refl h
  where
    go : (first_not is_zero (suc at) bs ≡ None → bs ≡ zeros (length bs)) → (t : Bool) → is_zero b ≡ t
        → ◌≡◌ {A = Option ℕ} (if t then first_not is_zero (suc at) bs else Some at) None → b ∷ bs ≡ zeros (suc (length bs))
    go later true e q = let z : b ≡ 0 = eqb-true b 0 e in let r = later q in cc
    go later false e q = cc

pub none_in_zeros : (at n : ℕ) → first_not is_zero at (zeros n) ≡ None
unfolding first_not zeros
none_in_zeros at zero = refl
none_in_zeros at (suc n) = none_in_zeros (suc at) n

pub length-zeros : (n : ℕ) → length (zeros n) ≡ n
unfolding zeros
length-zeros n = length-replicate n 0

-- ---- bytes that are filled up ----

-- Bytes of which the ones from n on are 0 are the first n, filled up.
pub filled_take : (at n : ℕ) (bytes : Bytes) → length bytes ≡ 255 → n ≤ 255 → first_not is_zero at (drop n bytes) ≡ None →
    filled_with_zeros 255 (take n bytes) ≡ bytes
filled_take at n bytes size low h =
    let k : length (take n bytes) ≡ n = omega (arith, length-take n bytes) in
    let m : length (drop n bytes) ≡ 255 - n = omega (arith, length-drop n bytes) in
    let z : drop n bytes ≡ zeros (255 - n) = zeros_are at (drop n bytes) h ∙ ap zeros m in
    rw k (rw (sym z) (take-append-drop n bytes))

-- Bytes that were filled up are first themselves, and then zeros.
pub take_filled : (n : ℕ) (bytes : Bytes) → length bytes ≡ n → take n (filled_with_zeros 255 bytes) ≡ bytes
take_filled n bytes k = take_at bytes (zeros (255 - length bytes)) n k

pub drop_filled : (n : ℕ) (bytes : Bytes) → length bytes ≡ n → drop n (filled_with_zeros 255 bytes) ≡ zeros (255 - length bytes)
drop_filled n bytes k = drop_at bytes (zeros (255 - length bytes)) n k

pub length-filled : (bytes : Bytes) → length bytes ≤ 255 → length (filled_with_zeros 255 bytes) ≡ 255
length-filled bytes low = omega (arith, length-append bytes (zeros (255 - length bytes)), length-zeros (255 - length bytes))

-- ---- two faults ----

pub two : (a b : Option ℕ) → first (a ∷ b ∷ []) ≡ None → (a ≡ None) × (b ≡ None)
two a b h = let p = no_first a (option_or b None) h in (p.0, (no_first b None p.1).0)

pub two_none : (a b : Option ℕ) → a ≡ None → b ≡ None → first (a ∷ b ∷ []) ≡ None
two_none a b h k = none_first a (option_or b None) h (none_first b None k refl)
