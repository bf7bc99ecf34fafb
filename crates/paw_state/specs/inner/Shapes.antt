-- How values stand in bytes, one after the other: the bytes of a value, and the value at an offset.
use Rattle.std.specs.Prelude.{◌≡◌, ℕ, zero, suc, ◌+◌, ◌*◌, ◌<◌, ◌^◌, ⊤, List, [], ◌∷◌, ◌++◌, All, length, flat_map}
use Rattle.std.specs.Prelude.{slice_index, slice_range}
use Rattle.std.specs.Int.{w16, w64, from_le_bytes, to_le_bytes}
use Rattle.paw_base.specs.Bytes.{Bytes}
use Rattle.paw_game.specs.Image.{two_bytes}

-- A shape: how many bytes a value has, which these are, the value that stands at an offset, and which values fit.
pub record Shape (A : Type 0) : Type 1 where
  pub size : ℕ
  pub bytes : A → Bytes
  pub value : Bytes → ℕ → A
  pub fits : A → Type 0

-- A number of one byte.
abbrev pub one_byte : Shape ℕ
one_byte = record { size = 1; bytes = λ n. n ∷ []; value = λ bytes at. slice_index bytes at; fits = λ n. ⊤ }

-- The number in the two bytes from an offset on, the low one first.
abbrev pub two_at : Bytes → ℕ → ℕ
two_at bytes at = from_le_bytes w16 (slice_range bytes at (at + 2))

-- The number in the eight bytes from an offset on.
abbrev pub eight_at : Bytes → ℕ → ℕ
eight_at bytes at = from_le_bytes w64 (slice_range bytes at (at + 8))

-- A number of two bytes.
abbrev pub two_byte : Shape ℕ
two_byte = record { size = 2; bytes = two_bytes; value = two_at; fits = λ n. n < 2 ^ 16 }

-- A number of eight bytes.
abbrev pub eight_byte : Shape ℕ
eight_byte = record { size = 8; bytes = to_le_bytes w64; value = eight_at; fits = λ n. n < 2 ^ 64 }

-- This number of bytes.
abbrev pub array : ℕ → Shape Bytes
array n = record {
  size = n;
  bytes = λ x. x;
  value = λ bytes at. slice_range bytes at (at + n);
  fits = λ x. length x ≡ n;
}

-- Two values, one after the other.
abbrev pub pair : {A B : Type 0} → Shape A → Shape B → Shape (A × B)
pair c d = record {
  size = c.size + d.size;
  bytes = λ p. c.bytes p.0 ++ d.bytes p.1;
  value = λ bytes at. (c.value bytes at, d.value bytes (at + c.size));
  fits = λ p. c.fits p.0 × d.fits p.1;
}

-- This number of values of a shape, the first of which stands at this offset.
unfoldable pub values_at : {A : Type 0} → Shape A → ℕ → Bytes → ℕ → List A
values_at c zero bytes at = []
values_at c (suc n) bytes at = c.value bytes at ∷ values_at c n bytes (at + c.size)

-- This number of values of a shape.
abbrev pub times : {A : Type 0} → ℕ → Shape A → Shape (List A)
times n c = record {
  size = n * c.size;
  bytes = λ l. flat_map c.bytes l;
  value = λ bytes at. values_at c n bytes at;
  fits = λ l. (length l ≡ n) × All c.fits l;
}

-- Values that are made of parts, in the shape of these parts.
abbrev pub through : {A B : Type 0} → (A → B) → (B → A) → Shape A → Shape B
through made parts c = record {
  size = c.size;
  bytes = λ b. c.bytes (parts b);
  value = λ bytes at. made (c.value bytes at);
  fits = λ b. c.fits (parts b);
}

-- ---- records, a row for each field ----

-- Fields of a record that stand one after the other: the shape of their values, these values of a record, and what a
-- function of the values makes of them.
pub record FieldRows (R P F M : Type 0) : Type 1 where
  pub shape : Shape P
  pub values : R → P
  pub make : F → P → M

-- The last field: what it is of a record, and its shape.
abbrev pub last_field : {R A M : Type 0} → (R → A) → Shape A → FieldRows R A (A → M) M
last_field get c = record { shape = c; values = get; make = λ f a. f a }

-- A field, and those after it.
abbrev pub field : {R A P F M : Type 0} → (R → A) → Shape A → FieldRows R P F M → FieldRows R (A × P) (A → F) M
field get c rows = record {
  shape = pair c rows.shape;
  values = λ r. (get r, rows.values r);
  make = λ f p. rows.make (f p.0) p.1;
}

-- A record of these fields, made of their values by this function.
abbrev pub made_of : {R P F : Type 0} → F → FieldRows R P F R → Shape R
made_of f rows = through (rows.make f) rows.values rows.shape
