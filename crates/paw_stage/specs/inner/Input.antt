-- What a reader of lines takes from its bytes.
use Rattle.std.specs.Prelude.{◌≡◌, ℕ, ◌<◌, ◌≤◌, ⊤, [], length, take, Option, Some, None}
use Rattle.std.specs.Prelude.{IfSome, Result, IfOk}
use Rattle.std.specs.Io.KnownBytes.{prepend_known}
use Rattle.std.specs.Io.BufRead.{first_line, drop_through}
use Rattle.paw_base.specs.Bytes.{Bytes}
use Rattle.paw_base.specs.declared.limits.TheConstants.{LINE_LIMIT}
use Rattle.paw_stage.specs.Stage.{IsCut}
use Rattle.paw_stage.specs.declared.Asked.{Asked}
use Rattle.paw_stage.specs.declared.Asked.TheVariants as asked
use Rattle.paw_stage.specs.declared.input.LineReader.{LineReader}
use Rattle.paw_stage.specs.inner.LineParts.{bytes_buffered}

-- The bytes that are still to be taken, where they are known: those read ahead, and those that reads will give.
abbrev pub bytes_unread : {R : Type 0} → (R → Option Bytes) → LineReader R → Option Bytes
bytes_unread remaining s = prepend_known s.ahead (remaining s.reader)

-- The greatest length of a line that is taken, in bytes, without its end.
abbrev pub longest_line : ℕ
longest_line = 1048576

-- Where these bytes are known, their first line is too long.
abbrev pub IsLong : Option Bytes → Type 0
IsLong unread = IfSome unread (λ bytes. longest_line < length (first_line bytes))

-- What an ask takes from these bytes, and what it leaves of them. It takes all bytes up to the first LF, or all where
-- there is none, and gives the line without its LF or CR LF.
abbrev pub TakesLine : Bytes → Option Bytes → Asked → Bytes → Type 0
TakesLine bytes left (asked.Line n) into =
    (0 < length bytes) × (length (first_line bytes) ≤ longest_line) × IsCut (first_line bytes) into n
    × (left ≡ Some (drop_through 10 bytes))
TakesLine bytes left asked.End into = (bytes ≡ []) × (left ≡ Some [])
TakesLine bytes left asked.Failed into = ⊤

-- Of these bytes the first line was taken, which has this length, and its first 255 bytes stand in a buffer.
abbrev pub HasLine : Bytes → Option Bytes → ℕ → Bytes → Type 0
HasLine bytes left len into =
    (0 < length bytes) × (len ≡ length (first_line bytes))
    × (take (bytes_buffered len) into ≡ take LINE_LIMIT (first_line bytes))
    × (left ≡ Some (drop_through 10 bytes))

-- What gathering a line from these bytes gives: its length. A length that is too great says only that the line is too
-- long, and not how long.
abbrev pub GathersLine : Bytes → Option Bytes → Option ℕ → Bytes → Type 0
GathersLine bytes left None into = (bytes ≡ []) × (left ≡ Some [])
GathersLine bytes left (Some len) into =
    (len ≤ longest_line → HasLine bytes left len into) × (longest_line < len → IsLong (Some bytes))

-- What gathering a line from the first bytes gives, where they are known; a part of it may have been taken before.
abbrev pub GathersFrom : {R E : Type 0} → (R → Option Bytes) → Option Bytes → LineReader R → Result (Option ℕ) E → Bytes
    → Type 0
GathersFrom remaining first new gathered into =
    IfSome first (λ bytes. IfOk gathered (λ len. GathersLine bytes (bytes_unread remaining new) len into))

-- What an ask and the gathering of a line do to a reader, where its bytes are known.
module _ {R : Type 0} (remaining : R → Option Bytes) (old new : LineReader R) where
  -- What an ask does to a reader.
  abbrev pub AsksOf : Asked → Bytes → Type 0
  AsksOf asked into =
      IfSome (bytes_unread remaining old) (λ bytes. TakesLine bytes (bytes_unread remaining new) asked into)

  -- What the gathering of a line does to a reader.
  abbrev pub GathersOf : {E : Type 0} → Result (Option ℕ) E → Bytes → Type 0
  GathersOf gathered into = GathersFrom remaining (bytes_unread remaining old) new gathered into
