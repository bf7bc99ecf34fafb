-- Numbers.
use Rattle.std.specs.Prelude.{ℕ, ◌==◌, ◌&&◌, Bool, length, nat_lt}
use Rattle.std.specs.Prelude.{if◌then◌else◌, Option, Some, None, Result, Ok, Err}
use Rattle.std.specs.Char.{is_ascii_digit}
use Rattle.std.specs.List.{list_all}
use Rattle.std.specs.Str.Parse.{digits_value}
use Rattle.paw_base.specs.Bytes.{Token, Tokens}
use Rattle.paw_base.specs.declared.fault.SourceKind.{SourceKind}
use Rattle.paw_base.specs.declared.fault.SourceKind.TheVariants as kind
use Rattle.paw_game.specs.Valid.{is_within}
use Rattle.paw_read_error.specs.Bind.{◌>>=◌}
use Rattle.paw_grammar.specs.Tokens.{Reads, read_by}

-- The value of a token of decimal digits, at least one; zeros may come first.
abbrev pub number : Token → Option ℕ
number word = if nat_lt 0 (length word) && list_all is_ascii_digit word then Some (digits_value 10 word) else None

-- A number that follows a rule; the fault Range where it breaks it.
abbrev pub in_range : (ℕ → Bool) → ℕ × Tokens → Result (ℕ × Tokens) SourceKind
in_range rule n = if rule n.0 then Ok n else Err kind.Range

-- The next token as a number that follows a rule.
abbrev pub number_with : (ℕ → Bool) → Reads ℕ
number_with rule ts = read_by kind.Number number ts >>= in_range rule

-- A number from low to high, both included.
abbrev pub number_within : ℕ → ℕ → Reads ℕ
number_within low high ts = number_with (is_within low high) ts

-- A number below a limit.
abbrev pub number_below : ℕ → Reads ℕ
number_below limit ts = number_with (λ n. nat_lt n limit) ts

-- The number of a row: n, which is how many rows stand before it. Once there are `count` rows, no number is right.
abbrev pub row_number : ℕ → ℕ → Reads ℕ
row_number n count ts = number_with (λ m. (m == n) && nat_lt n count) ts
