-- What stands in a list, and what is found in it.
use Rattle.std.proofs.Common.{◌≡◌, ℕ, zero, suc, ◌+◌, ◌≤◌, ◌<◌, ◌==◌, ◌||◌, Bool, true, false, List, [], ◌∷◌, ◌++◌, ◌⊎◌}
use Rattle.std.proofs.Common.{inl, inr, Option, Some, None, refl}
use Rattle.std.proofs.Common.{sym, subst, length, arith}
use Rattle.std.specs.Prelude.{filter, nat_lt, not, cond}
use Rattle.std.specs.List.{list_any, flat_map, range_with_len, position, position_or_len}
use Rattle.std.proofs.lemmas.Bool.{or_cases, eqb-true, lt-ltb}
use Rattle.std.proofs.lemmas.Bool.Decides.{nat_tests}
use Rattle.paw_check.specs.Verbs.{is_among}

-- This number is one of these.
abbrev pub In : ℕ → List ℕ → Type 0
In u us = is_among us u ≡ true

-- One of two tests is passed.
pub or_left : (x y : Bool) → x ≡ true → (x || y) ≡ true
or_left true y h = refl
or_left false y h = cc

pub or_right : (x y : Bool) → y ≡ true → (x || y) ≡ true
or_right true y h = refl
or_right false y h = h

same_number : (n : ℕ) → (n == n) ≡ true
same_number n = grind (arith, nat_tests)

-- ---- lists that are joined ----

pub any_front : {A : Type 0} (p : A → Bool) (xs ys : List A) → list_any p xs ≡ true → list_any p (xs ++ ys) ≡ true
any_front p [] ys h = cc
any_front p (x ∷ xs) ys h =
    elim (or_cases (p x) (list_any p xs) h) [
      | inl here ↦ or_left (p x) (list_any p (xs ++ ys)) here
      | inr later ↦ or_right (p x) (list_any p (xs ++ ys)) (any_front p xs ys later)
    ]

pub any_behind : {A : Type 0} (p : A → Bool) (xs ys : List A) → list_any p ys ≡ true → list_any p (xs ++ ys) ≡ true
any_behind p [] ys h = h
any_behind p (x ∷ xs) ys h = or_right (p x) (list_any p (xs ++ ys)) (any_behind p xs ys h)

pub any_of_joined : {A : Type 0} (p : A → Bool) (xs ys : List A) → list_any p (xs ++ ys) ≡ true → (list_any p xs ≡ true) ⊎ (list_any p ys ≡ true)
any_of_joined p [] ys h = inr h
any_of_joined p (x ∷ xs) ys h =
    elim (or_cases (p x) (list_any p (xs ++ ys)) h) [
      | inl here ↦ inl (or_left (p x) (list_any p xs) here)
      | inr later ↦ elim (any_of_joined p xs ys later) [
        | inl front ↦ inl (or_right (p x) (list_any p xs) front)
        | inr behind ↦ inr behind
      ]
    ]

-- What is found in one of some lists is found in all of them together.
pub any_within : {A : Type 0} (p : A → Bool) (f : ℕ → List A) (us : List ℕ) (u : ℕ) → In u us → list_any p (f u) ≡ true → list_any p (flat_map f us) ≡ true
any_within p f [] u at h = cc
any_within p f (v ∷ vs) u at h =
    elim (or_cases (v == u) (is_among vs u) at) [
      | inl here ↦ any_front p (f v) (flat_map f vs) (subst (λ w. list_any p (f w) ≡ true) (sym (eqb-true v u here)) h)
      | inr later ↦ any_behind p (f v) (flat_map f vs) (any_within p f vs u later h)
    ]

-- And what is found in all of them is found in one.
pub record Found {A : Type 0} (p : A → Bool) (f : ℕ → List A) (us : List ℕ) : Type 0 where
  pub place : ℕ
  pub among : In place us
  pub found : list_any p (f place) ≡ true

pub found_within : {A : Type 0} (p : A → Bool) (f : ℕ → List A) (us : List ℕ) → list_any p (flat_map f us) ≡ true → Found p f us
found_within p f [] h = cc
found_within p f (v ∷ vs) h =
    elim (any_of_joined p (f v) (flat_map f vs) h) [
      | inl here ↦ record { place = v; among = or_left (v == v) (is_among vs v) (same_number v); found = here }
      | inr later ↦
          let k : Found p f vs = found_within p f vs later in
          record { place = k.place; among = or_right (v == k.place) (is_among vs k.place) k.among; found = k.found }
    ]

-- A weaker test finds as much.
pub any_weaker : {A : Type 0} (p q : A → Bool) → ((x : A) → p x ≡ true → q x ≡ true) → (xs : List A) → list_any p xs ≡ true → list_any q xs ≡ true
any_weaker p q h [] k = cc
any_weaker p q h (x ∷ xs) k =
    elim (or_cases (p x) (list_any p xs) k) [
      | inl here ↦ or_left (q x) (list_any q xs) (h x here)
      | inr later ↦ or_right (q x) (list_any q xs) (any_weaker p q h xs later)
    ]

-- ---- what passes a test, and ranges ----

in_passed : (b : Bool) (u v : ℕ) (vs : List ℕ) → In u vs → In u (cond b (v ∷ vs) vs)
in_passed true u v vs h = or_right (v == u) (is_among vs u) h
in_passed false u v vs h = h

pub in_filtered : (q : ℕ → Bool) (us : List ℕ) (u : ℕ) → q u ≡ true → In u us → In u (filter q us)
in_filtered q [] u pass at = cc
in_filtered q (v ∷ vs) u pass at =
    elim (or_cases (v == u) (is_among vs u) at) [
      | inl here ↦ first here (subst (λ w. q w ≡ true) (sym (eqb-true v u here)) pass)
      | inr later ↦ in_passed (q v) u v (filter q vs) (in_filtered q vs u pass later)
    ]
  where
    first : (v == u) ≡ true → q v ≡ true → In u (cond (q v) (v ∷ filter q vs) (filter q vs))
    first here passes = rw passes (or_left (v == u) (is_among (filter q vs) u) here)

-- What passed a test stood there, and passes it.
pub record Passed (q : ℕ → Bool) (us : List ℕ) (u : ℕ) : Type 0 where
  pub passes : q u ≡ true
  pub among : In u us

pub of_filtered : (q : ℕ → Bool) (us : List ℕ) (u : ℕ) → In u (filter q us) → Passed q us u
of_filtered q [] u at = cc
of_filtered q (v ∷ vs) u at = go (of_filtered q vs u) (q v) refl at
  where
    later : Passed q vs u → Passed q (v ∷ vs) u
    later k = record { passes = k.passes; among = or_right (v == u) (is_among vs u) k.among }

    go : (In u (filter q vs) → Passed q vs u) → (b : Bool) → q v ≡ b → In u (cond b (v ∷ filter q vs) (filter q vs)) → Passed q (v ∷ vs) u
    go more true e h =
        elim (or_cases (v == u) (is_among (filter q vs) u) h) [
          | inl here ↦ record { passes = subst (λ w. q w ≡ true) (eqb-true v u here) e; among = or_left (v == u) (is_among vs u) here }
          | inr behind ↦ later (more behind)
        ]
    go more false e h = later (more h)

pub in_range : (a n u : ℕ) → a ≤ u → u < a + n → In u (range_with_len a n)
in_range a zero u low high = absurd (omega arith)
in_range a (suc n) u low high = go (a == u) refl (λ above. in_range (a + 1) n u above (omega arith))
  where
    go : (b : Bool) → (a == u) ≡ b → (a + 1 ≤ u → In u (range_with_len (a + 1) n)) → (b || is_among (range_with_len (a + 1) n) u) ≡ true
    go true e more = refl
    go false e more = more (grind (arith, nat_tests))

pub of_range : (a n u : ℕ) → In u (range_with_len a n) → u < a + n
of_range a zero u h = cc
of_range a (suc n) u h =
    elim (or_cases (a == u) (is_among (range_with_len (a + 1) n) u) h) [
      | inl here ↦ omega (arith, eqb-true a u here)
      | inr later ↦ omega (arith, of_range (a + 1) n u later)
    ]

-- ---- positions ----

found_before : {A : Type 0} (p : A → Bool) (xs : List A) → list_any p xs ≡ true → position_or_len p xs < length xs
found_before p [] h = cc
found_before p (x ∷ xs) h = go (p x) h (found_before p xs)
  where
    go : (b : Bool) → (b || list_any p xs) ≡ true → (list_any p xs ≡ true → position_or_len p xs < length xs) →
        cond (not b) (1 + position_or_len p xs) 0 < suc (length xs)
    go true k more = omega arith
    go false k more = let low = more k in omega arith

-- What is found has a position.
pub no_position : {A : Type 0} (p : A → Bool) (xs : List A) → position p xs ≡ None → list_any p xs ≡ true → ⊥
no_position p xs none h =
    let low : nat_lt (position_or_len p xs) (length xs) ≡ true = lt-ltb (position_or_len p xs) (length xs) (found_before p xs h) in
    go (nat_lt (position_or_len p xs) (length xs)) low none
  where
    go : (b : Bool) → b ≡ true → ◌≡◌ {A = Option ℕ} (cond b (Some (position_or_len p xs)) None) None → ⊥
    go true e k = cc
    go false e k = cc
