-- A field that is read is the field that was written, and what was written is read again.
use Rattle.std.proofs.Common.{◌≡◌, ℕ, suc, ◌+◌, ◌^◌, ◌<◌, ◌≤◌, Bool, true, false, cond, ltb}
use Rattle.std.proofs.Common.{[], ◌∷◌, ◌++◌, length, get_or, take, drop, Result, Ok, Err}
use Rattle.std.proofs.Common.{refl, sym, ap, subst, ◌∙◌, append_assoc, arith, inl, inr}
use Rattle.std.specs.Int.{w16, from_le_bytes}
use Rattle.std.proofs.lemmas.Bool.{cases_lt, ltb-false, le-ltb}
use Rattle.std.proofs.lemmas.List.{take_at, drop_at, take-append-drop, length-append, length-take, get_or-drop}
use Rattle.std.proofs.lemmas.List.{get_or-take, get_or_past}
use Rattle.std.proofs.lemmas.Nat.{le_bytes_2, from_le_bytes-to_le_bytes_2}
use Rattle.paw_base.specs.Bytes.{Bytes}
use Rattle.paw_game.specs.Image.{two_bytes}
use Rattle.paw_read_error.specs.Bind.{◌>>=◌}
use Rattle.paw_image.specs.Reading.{byte_at, bytes_at, number_at}

abbrev pub IsBytes : Bytes → Type 0
IsBytes bytes = (i : ℕ) → get_or bytes i 0 < 256

IsBytes-drop : (n : ℕ) (bytes : Bytes) → IsBytes bytes → IsBytes (drop n bytes)
IsBytes-drop n bytes h i = rw get_or-drop (h (n + i))

IsBytes-take : (n : ℕ) (bytes : Bytes) → IsBytes bytes → IsBytes (take n bytes)
IsBytes-take n bytes h i =
    elim (cases_lt i n) [
      | inl lt ↦ rw (get_or-take n bytes i 0 lt) (h i)
      | inr le ↦ rw (get_or_past (take n bytes) i 0 (omega (arith, length-take n bytes))) (omega arith)
    ]

-- ---- steps that did not fail ----

abbrev pub read_ok : {A : Type 0} → A → Result A ℕ
read_ok x = Ok x

ok_is : {A : Type 0} (x y : A) → read_ok x ≡ read_ok y → x ≡ y
ok_is x y e = cc

-- What holds of the value that was made holds of the value that was answered.
pub at_ok : {A : Type 0} (P : A → Type 0) (x y : A) → read_ok x ≡ read_ok y → P x → P y
at_ok P x y e p = subst P (ok_is x y e) p

-- What follows from the value of a step that did not fail.
pub bind_then : {A B : Type 0} (P : Type 0) (r : Result A ℕ) (f : A → Result B ℕ) (y : B) → (r >>= f) ≡ Ok y → ((x : A) → r ≡ Ok x → f x ≡ Ok y → P) → P
bind_then P (Ok x) f y e go = go x refl e
bind_then P (Err left) f y e go = absurd cc

-- A test that failed nothing.
pub guard_ok : {A : Type 0} (b : Bool) (left : ℕ) (x : Result A ℕ) (y : A) → cond b (Err left) x ≡ Ok y → (b ≡ false) × (x ≡ Ok y)
guard_ok true left x y e = absurd cc
guard_ok false left x y e = (refl, e)

pub follows_ok : {A : Type 0} (b : Bool) (x : Result A ℕ) (left : ℕ) (y : A) → cond b x (Err left) ≡ Ok y → (b ≡ true) × (x ≡ Ok y)
follows_ok true x left y e = (refl, e)
follows_ok false x left y e = absurd cc

-- ---- what was taken from the front ----

pub record Takes (bytes text rest : Bytes) : Type 0 where
  pub parts : bytes ≡ text ++ rest
  pub rest_fits : IsBytes rest

pub Takes-then : {a b c : Bytes} (x y : Bytes) → Takes a x b → Takes b y c → Takes a (x ++ y) c
Takes-then {c = c} x y p q = record { parts = p.parts ∙ ap (λ (t : Bytes). x ++ t) q.parts ∙ sym (append_assoc x y c); rest_fits = q.rest_fits }

-- ---- bytes ----

pub byte_takes : (bytes : Bytes) (x : ℕ × Bytes) → IsBytes bytes → byte_at bytes ≡ Ok x → Takes bytes (x.0 ∷ []) x.1 × (x.0 < 256)
byte_takes [] x fits e = absurd cc
byte_takes (b ∷ bytes) x fits e =
    at_ok (λ (y : ℕ × Bytes). Takes (b ∷ bytes) (y.0 ∷ []) y.1 × (y.0 < 256)) (b, bytes) x e (record { parts = refl; rest_fits = λ i. fits (suc i) }, fits 0)

pub bytes_take : (n : ℕ) (bytes : Bytes) (x : Bytes × Bytes) → IsBytes bytes → bytes_at n bytes ≡ Ok x → Takes bytes x.0 x.1 × (length x.0 ≡ n) × IsBytes x.0
bytes_take n bytes x fits e =
    let is_long = guard_ok (ltb (length bytes) n) _ _ x e in
    let long : n ≤ length bytes = ltb-false _ _ is_long.0 in
    at_ok (λ (y : Bytes × Bytes). Takes bytes y.0 y.1 × (length y.0 ≡ n) × IsBytes y.0) _ x is_long.1
    (record { parts = sym (take-append-drop n bytes); rest_fits = IsBytes-drop n bytes fits }, omega (arith, length-take n bytes), IsBytes-take n bytes fits)

pub bytes_again : (n : ℕ) (front rest : Bytes) → length front ≡ n → bytes_at n (front ++ rest) ≡ Ok (front, rest)
bytes_again n front rest len =
    let long : ltb (length (front ++ rest)) n ≡ false = le-ltb _ _ (omega (arith, length-append front rest)) in
    rw (long, take_at front rest n len, drop_at front rest n len) refl

-- ---- numbers of two bytes ----

pub number_takes : (bytes : Bytes) (x : ℕ × Bytes) → IsBytes bytes → number_at bytes ≡ Ok x → Takes bytes (two_bytes x.0) x.1 × (x.0 < 2 ^ 16)
unfolding number_at
number_takes bytes x fits e =
    bind_then _ (bytes_at 2 bytes) _ x e (λ two two_ok e.
    let two_taken = bytes_take 2 bytes two fits two_ok in
    let back : two_bytes (from_le_bytes w16 two.0) ≡ two.0 = le_bytes_2 two.0 _ two_taken.1 two_taken.2 refl in
    at_ok (λ (y : ℕ × Bytes). Takes bytes (two_bytes y.0) y.1 × (y.0 < 2 ^ 16)) _ x e
    (subst (λ (y : Bytes). Takes bytes y two.1) (sym back) two_taken.0, omega (arith, two_taken.2 0, two_taken.2 1)))

pub number_again : (n : ℕ) (rest : Bytes) → n < 2 ^ 16 → number_at (two_bytes n ++ rest) ≡ Ok (n, rest)
unfolding number_at
number_again n rest lt = rw (bytes_again 2 (two_bytes n) rest refl, from_le_bytes-to_le_bytes_2 n lt) refl
