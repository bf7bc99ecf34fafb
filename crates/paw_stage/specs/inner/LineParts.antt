-- The parts of a line that is taken one part after the other.
use Rattle.std.specs.Prelude.{◌≡◌, ◌≢◌, ℕ, ◌+◌, ◌-◌, Bool, [], ◌∷◌, ◌++◌, length, take, min, Option, if◌then◌else◌}
use Rattle.std.specs.Io.KnownBytes.{Consumes}
use Rattle.std.specs.Io.BufRead.{ends_with_byte}
use Rattle.paw_base.specs.Bytes.{Bytes}
use Rattle.paw_base.specs.declared.limits.TheConstants.{LINE_LIMIT}

-- No byte of these is an LF.
abbrev pub HasNoEnd : Bytes → Type 0
HasNoEnd [] = Unit {0}
HasNoEnd (x ∷ xs) = (x ≢ 10) × HasNoEnd xs

-- The LF of a line that has one, or nothing.
abbrev pub line_end : Bool → Bytes
line_end ended = if ended then 10 ∷ [] else []

-- How many bytes stand in the buffer of a line of which `taken` were taken.
abbrev pub bytes_buffered : ℕ → ℕ
bytes_buffered taken = min taken LINE_LIMIT

-- Once `taken` bytes of a line were taken, the next `count` were taken from these bytes: after the old ones, a buffer
-- with the first 255 of the line has those of the new ones that are among them.
abbrev pub CopiesPart : Bytes → Bytes → ℕ → ℕ → Bytes → Type 0
CopiesPart old new taken count bytes =
    take (bytes_buffered (taken + count)) new
    ≡ take (bytes_buffered taken) old ++ take (bytes_buffered (taken + count) - bytes_buffered taken) bytes

-- Of the line being read this number of bytes was taken from the first bytes, with no LF among them. Their first 255
-- stand in a buffer, and `ends_with_return` says that the last of them is a CR.
pub record Gathers (first left : Option Bytes) (into : Bytes) (len : ℕ) (ends_with_return : Bool) : Type 0 where
  pub taken : Bytes
  pub consumed : Consumes first left taken
  pub count : length taken ≡ len
  pub plain : HasNoEnd taken
  pub buffered : take (bytes_buffered len) into ≡ take LINE_LIMIT taken
  pub last : ends_with_return ≡ ends_with_byte 13 taken
