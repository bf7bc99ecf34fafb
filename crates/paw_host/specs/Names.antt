-- What a line asks for, and whose session it is about.
use Rattle.std.specs.Prelude.{ℕ, ◌+◌, ◌==◌, ◌&&◌, ◌||◌, Bool, nat_le, nat_lt, ◌++◌, length, take, drop, position}
use Rattle.std.specs.Prelude.{codes, Option, Some, None, if◌then◌else◌}
use Rattle.std.specs.Char.{is_ascii_digit, is_ascii_lowercase}
use Rattle.std.specs.List.{list_all}
use Rattle.paw_base.specs.Bytes.{Bytes, Line, Name, Text}
use Rattle.paw_base.specs.declared.limits.TheConstants.{LINE_LIMIT}

-- Whether a byte may stand in a name: a to z, or 0 to 9.
abbrev pub is_name_byte : ℕ → Bool
is_name_byte b = is_ascii_lowercase b || is_ascii_digit b

-- Whether this is a name: it has 1 to 16 such bytes.
abbrev pub is_name : Bytes → Bool
is_name name = nat_lt 0 (length name) && (nat_le (length name) 16 && list_all is_name_byte name)

-- What a line asks for: the name of a player, and the text after the name, if there is one.
pub record Request : Type 0 where
  pub name : Name
  pub text : Option Text

-- The request of a line that is split at this offset, where a space stands, or that isn't split.
abbrev pub split_at : Line → Option ℕ → Request
split_at line None = record { name = line; text = None }
split_at line (Some at) = record { name = take at line; text = Some (drop (at + 1) line) }

-- The request of a line, which is split at its first space.
abbrev pub line_split : Line → Request
line_split line = split_at line (position (λ b. b == 32) line)

-- What a line asks for, where it is a name, or a name, a space and a text.
abbrev pub request_in : Line → Option Request
request_in line = if is_name (line_split line).name then Some (line_split line) else None

-- What a typed line asks for; only its first 255 bytes count.
unfoldable pub request_of : Line → Option Request
request_of line = request_in (take LINE_LIMIT line)

-- The file that keeps the session of a name.
abbrev pub store_name : Name → Name
store_name name = name ++ codes ".paw"
