-- Names are text.
use Rattle.paw_host.proofs.Cited.{◌≡◌, inl, inr, ℕ, zero, suc, ◌<◌, [], ◌∷◌, ◌++◌, true, arith, codes, length, get_or, nat_le, nat_lt, ◌≢◌, ◌∙◌, Bool, false, refl, sym, bytes_eq, bytes_eq-Decides, is_ascii_digit, is_ascii_lowercase, list_all, IsUtf8, and_parts, or_cases, leb-true, IsUtf8-from_ascii, Name, is_name_byte, is_name, store_name}

ascii_byte : (b : ℕ) → is_name_byte b ≡ true → b < 128
ascii_byte b h = elim (or_cases (is_ascii_lowercase b) (is_ascii_digit b) h) [
  | inl l ↦ let m = leb-true b 122 (and_parts (nat_le 97 b) (nat_le b 122) l).1 in omega (arith, m)
  | inr d ↦ let m = leb-true b 57 (and_parts (nat_le 48 b) (nat_le b 57) d).1 in omega (arith, m)
]

ascii_end : (i : ℕ) → get_or (codes ".paw") i 0 < 128
ascii_end zero = omega arith
ascii_end (suc zero) = omega arith
ascii_end (suc (suc zero)) = omega arith
ascii_end (suc (suc (suc zero))) = omega arith
ascii_end (suc (suc (suc (suc i)))) = omega arith

ascii_at : (name : Name) → list_all is_name_byte name ≡ true → (i : ℕ) → get_or (name ++ codes ".paw") i 0 < 128
ascii_at [] h i = ascii_end i
ascii_at (b ∷ name) h zero = ascii_byte b (and_parts (is_name_byte b) (list_all is_name_byte name) h).0
ascii_at (b ∷ name) h (suc i) = ascii_at name (and_parts (is_name_byte b) (list_all is_name_byte name) h).1 i

-- The name of a store is text.
pub store_text : (name : Name) → is_name name ≡ true → IsUtf8 (store_name name)
store_text name h =
    let parts = (and_parts (nat_lt 0 (length name)) _ h).1 in
    IsUtf8-from_ascii (store_name name) (ascii_at name (and_parts (nat_le (length name) 16) _ parts).1)

-- A name is short.
pub name_short : (name : Name) → is_name name ≡ true → nat_le (length name) 16 ≡ true
name_short name h = (and_parts (nat_le (length name) 16) _ (and_parts (nat_lt 0 (length name)) _ h).1).0

-- ---- two names ----

-- What holds where they are the same, and where they are not, holds of whether they are.
pub by_name : (P : Bool → Type 0) (a b : Name) → (a ≡ b → P true) → (a ≢ b → P false) → P (bytes_eq a b)
by_name P a b same other = elim (bytes_eq a b) as (λ t. bytes_eq a b ≡ t → P t) [
  | true ↦ λ t. same ((bytes_eq-Decides a b).0 t)
  | false ↦ λ t. other (λ e. let yes : bytes_eq a b ≡ true = (bytes_eq-Decides a b).1 e in let no : true ≡ false = sym yes ∙ t in cc)
] refl
