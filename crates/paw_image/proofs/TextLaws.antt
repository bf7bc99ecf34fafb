-- The text that stands at an offset of bytes, after its length.
use Rattle.std.proofs.Common.{◌≡◌, ℕ, ◌+◌, ◌-◌, ◌<◌, ◌≤◌, [], ◌∷◌, length, take, drop, get_or, Some, None, refl}
use Rattle.std.proofs.Common.{ap, ◌∙◌, take_all, length-drop, le_of_eq, inl, inr, arith}
use Rattle.std.specs.Int.{w16, from_le_bytes}
use Rattle.std.proofs.lemmas.Bool.{cases_lt, lt-ltb, le-ltb}
use Rattle.std.proofs.lemmas.Option.{slice_get-get_or}
use Rattle.paw_base.specs.Bytes.{Bytes}
use Rattle.paw_image.specs.Reading.{bytes_at, number_at}
use Rattle.paw_image.specs.inner.Reading.{sized_text_at}
use Rattle.paw_image.specs.inner.Rows.{value_of}
use Rattle.paw_image.proofs.FieldLaws.{bytes_again}
use Rattle.paw_image.proofs.HereLaws.{here}

-- The length in the first two bytes from an offset on.
abbrev pub length_at : ℕ → Bytes → ℕ
length_at p bytes = from_le_bytes w16 (get_or bytes p 0 ∷ get_or bytes (p + 1) 0 ∷ [])

no_length : (bytes : Bytes) → length bytes < 2 → value_of (sized_text_at bytes) ≡ None
unfolding sized_text_at number_at
no_length bytes h = rw (lt-ltb (length bytes) 2 h) refl

after_length : (a b : ℕ) (rest : Bytes) → sized_text_at (a ∷ b ∷ rest) ≡ bytes_at (from_le_bytes w16 (a ∷ b ∷ [])) rest
unfolding sized_text_at number_at
after_length a b rest = rw (bytes_again 2 (a ∷ b ∷ []) rest refl) refl

-- Where a text is read its length stands.
pub length_there : (p : ℕ) (bytes : Bytes) → (value_of (sized_text_at (drop p bytes)) ≡ None → ⊥) → p + 2 ≤ length bytes
length_there p bytes there =
    elim (cases_lt (length (drop p bytes)) 2) [
      | inl lt ↦ absurd (there (no_length (drop p bytes) lt))
      | inr le ↦ omega (arith, length-drop p bytes)
    ]

module _ (p : ℕ) (bytes : Bytes) (long : p + 2 ≤ length bytes) where
  two_first : drop p bytes ≡ get_or bytes p 0 ∷ get_or bytes (p + 1) 0 ∷ drop (p + 2) bytes
  two_first =
      let first = slice_get-get_or bytes p 0 (omega arith) in
      let second = slice_get-get_or bytes (p + 1) 0 (omega arith) in
      let next : p + 1 + 1 ≡ p + 2 = omega arith in
      here p bytes (get_or bytes p 0) first
      ∙ ap (λ (t : Bytes). get_or bytes p 0 ∷ t) (here (p + 1) bytes (get_or bytes (p + 1) 0) second
      ∙ ap (λ (n : ℕ). get_or bytes (p + 1) 0 ∷ drop n bytes) next)

  at_text : sized_text_at (drop p bytes) ≡ bytes_at (length_at p bytes) (drop (p + 2) bytes)
  at_text = ap sized_text_at two_first ∙ after_length (get_or bytes p 0) (get_or bytes (p + 1) 0) (drop (p + 2) bytes)

  module _ (n : ℕ) (rest : Bytes) (is : n ≡ length_at p bytes) (after : rest ≡ drop (p + 2) bytes) where
    read : sized_text_at (drop p bytes) ≡ bytes_at n rest
    read = rw (is, after) at_text

    -- Where a text is read all its bytes stand.
    pub text_there : (value_of (sized_text_at (drop p bytes)) ≡ None → ⊥) → n ≤ length rest
    text_there there =
        elim (cases_lt (length rest) n) [
          | inl lt ↦ absurd (there (rw (read, lt-ltb (length rest) n lt) refl))
          | inr le ↦ le
        ]

    pub text_is : n ≤ length rest → value_of (sized_text_at (drop p bytes)) ≡ Some (take n rest)
    text_is le = rw (read, le-ltb (length rest) n le) refl

-- The bytes from an offset on, as a slice up to their end.
pub from_there : (k : ℕ) (bytes : Bytes) → take (length bytes - k) (drop k bytes) ≡ drop k bytes
from_there k bytes = take_all (length bytes - k) (drop k bytes) (le_of_eq (length-drop k bytes))
