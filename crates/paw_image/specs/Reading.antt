-- Reading an image from left to right. A reading is a value and the bytes after it, or a fault: the number of bytes
-- left at the first field that isn't all there or has no meaning.
use Rattle.std.specs.Prelude.{ℕ, [], ◌∷◌, length, take, drop, Result, Ok, Err, nat_lt, if◌then◌else◌}
use Rattle.std.specs.Int.{w16, from_le_bytes}
use Rattle.paw_base.specs.Bytes.{Bytes}
use Rattle.paw_read_error.specs.Bind.{◌>>=◌}

-- A value and the bytes after it, or a fault.
abbrev pub Reading : Type 0 → Type 0
Reading A = Result (A × Bytes) ℕ

-- ---- numbers and bytes ----

-- The first byte.
abbrev pub byte_at : Bytes → Reading ℕ
byte_at [] = Err 0
byte_at (b ∷ bytes) = Ok (b, bytes)

-- The first n bytes.
abbrev pub bytes_at : ℕ → Bytes → Reading Bytes
bytes_at n bytes = if nat_lt (length bytes) n then Err (length bytes) else Ok (take n bytes, drop n bytes)

-- A number of two bytes, the low one first.
unfoldable pub number_at : Bytes → Reading ℕ
number_at bytes = bytes_at 2 bytes >>= λ two. Ok (from_le_bytes w16 two.0, two.1)
