-- Words of a call that are numbers.
use Rattle.std.specs.Prelude.{ℕ, ◌^◌, ◌&&◌, Option, Some, None, length, nat_le, nat_lt, if◌then◌else◌}
use Rattle.std.specs.Char.{is_ascii_digit}
use Rattle.std.specs.List.{list_all}
use Rattle.std.specs.Option.{option_and_then}
use Rattle.std.specs.Str.Parse.{digits_value}
use Rattle.paw_base.specs.Bytes.{Bytes, Seed}

-- The number that a word of decimal digits spells, at least one and at most this many; zeros may come first.
abbrev pub number_of : ℕ → Bytes → Option ℕ
number_of most word =
    if nat_lt 0 (length word) && (nat_le (length word) most && list_all is_ascii_digit word)
    then Some (digits_value 10 word)
    else None

-- The seed that a word spells: 1 to 20 decimal digits, with a value below 2^64.
abbrev pub seed_of : Bytes → Option Seed
seed_of word = option_and_then (λ n. if nat_lt n (2 ^ 64) then Some n else None) (number_of 20 word)
