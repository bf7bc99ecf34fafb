-- The condacts: definitions for contracts and proofs, besides those of specs/Condacts.antt.
use Rattle.std.specs.Prelude.{ℕ, ◌≡◌, ◌-◌, ◌++◌, Bool, true, length}
use Rattle.std.specs.Prelude.{replicate, nat_le, ◌==◌, ◌&&◌, not}
use Rattle.std.specs.List.{list_any, before_first}
use Rattle.paw_base.specs.Bytes.{Bytes, Name}
use Rattle.paw_base.specs.declared.rows.CondactRow.{CondactRow}
use Rattle.paw_base.specs.Condacts.{CondactLine, is_code, is_plain_code, line_of, name_of, capitals}

-- This number is the code of a condact.
abbrev pub IsCode : ℕ → Type 0
IsCode code = is_code code ≡ true

-- This number is the code of a condact that isn't indirect.
abbrev pub IsPlainCode : ℕ → Type 0
IsPlainCode code = is_plain_code code ≡ true

-- A name filled up with spaces to eight bytes.
abbrev pub filled_up : Name → Bytes
filled_up name = name ++ replicate (8 - length name) 32

-- What stands before the first space.
abbrev pub before_space : Bytes → Bytes
before_space name = before_first (λ byte. byte == 32) name

-- Whether the condact of a code acts.
abbrev pub is_act : ℕ → Bool
is_act code = (line_of code).acts

-- A line as a row of the table.
abbrev pub row_of_line : CondactLine → CondactRow
row_of_line line = record { name = filled_up line.name; first = line.first; second = line.second; acts = line.acts }

-- The row of the table for a code.
abbrev pub condact_row_of : ℕ → CondactRow
condact_row_of code = row_of_line (line_of code)

-- The plain condact of this code has this name, in any case of letters.
abbrev pub HasName : ℕ → Name → Type 0
HasName code name = IsPlainCode code × (name_of code ≡ capitals name)

-- Whether a name has at most eight bytes, and no space among them.
abbrev pub is_plain : Name → Bool
is_plain name = nat_le (length name) 8 && not (list_any (λ byte. byte == 32) name)
