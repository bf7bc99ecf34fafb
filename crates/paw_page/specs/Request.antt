-- What a page asks for, and the bytes by which it asks.
use Rattle.std.specs.Prelude.{◌≡◌, ◌<◌, ◌^◌, ◌++◌, ℕ, List, length}
use Rattle.std.specs.List.{All, flat_map}
use Rattle.std.specs.Int.{w32, to_le_bytes}
use Rattle.std.specs.Str.{IsUtf8}
use Rattle.paw_base.specs.Bytes.{Bytes, Lines, Name, Names}

-- What a page asks for: the words of a command, the files that stand there, each with its name, and the lines to be
-- typed. Of files of one name the last one stands there.
pub record PageRequest : Type 0 where
  pub words : Names
  pub files : List (Name × Bytes)
  pub lines : Lines

-- A number in 4 bytes, the low byte first.
abbrev pub number_bytes : ℕ → Bytes
number_bytes n = to_le_bytes w32 n

-- A part: its length in bytes, and then the bytes.
abbrev pub part_bytes : Bytes → Bytes
part_bytes bytes = number_bytes (length bytes) ++ bytes

-- A file: its name, and then its bytes, each as a part.
abbrev pub entry_bytes : Name × Bytes → Bytes
entry_bytes entry = part_bytes entry.0 ++ part_bytes entry.1

-- A list: how many there are, and then each of them.
abbrev pub list_bytes : {A : Type 0} → (A → Bytes) → List A → Bytes
list_bytes bytes_of xs = number_bytes (length xs) ++ flat_map bytes_of xs

-- The bytes of a request: its words, its files and its lines.
abbrev pub request_bytes : PageRequest → Bytes
request_bytes r = list_bytes part_bytes r.words ++ (list_bytes entry_bytes r.files ++ list_bytes part_bytes r.lines)

-- A number that 4 bytes hold.
abbrev pub IsNumber : ℕ → Type 0
IsNumber n = n < 2 ^ 32

-- Bytes whose length is such a number.
abbrev pub IsPart : Bytes → Type 0
IsPart bytes = IsNumber (length bytes)

-- A word or a name: a part that is a text.
abbrev pub IsTextPart : Bytes → Type 0
IsTextPart bytes = IsPart bytes × IsUtf8 bytes

-- A file whose name is a text.
abbrev pub IsEntry : Name × Bytes → Type 0
IsEntry entry = IsTextPart entry.0 × IsPart entry.1

-- A list that has such bytes: its number is one that 4 bytes hold, and each of it has such bytes.
abbrev pub IsListed : {A : Type 0} → (A → Type 0) → List A → Type 0
IsListed Is xs = IsNumber (length xs) × All Is xs

-- The bytes are this request.
pub record IsRequest (r : PageRequest) (bytes : Bytes) : Type 0 where
  pub same : bytes ≡ request_bytes r
  pub words : IsListed IsTextPart r.words
  pub files : IsListed IsEntry r.files
  pub lines : IsListed IsPart r.lines
