-- Which section a line begins.
use Rattle.std.specs.Prelude.{ℕ, ◌+◌, ◌-◌, ◌*◌, ◌==◌, ◌&&◌, ◌||◌, Bool, not, [], ◌∷◌, min, length, nat_lt, nat_le, is_some, if◌then◌else◌}
use Rattle.std.specs.Prelude.{Option, Some, None, codes}
use Rattle.std.specs.List.{position}
use Rattle.std.specs.Option.{option_map}
use Rattle.std.specs.Char.{is_ascii_digit}
use Rattle.paw_base.specs.Bytes.{Bytes, Names, Token}
use Rattle.paw_author.specs.declared.sections.TheConstants.{KINDS, THINGS, LETTERS, WORDS, EXITS, TABLES, NAMED_TABLES, TABLE_NUMBERS}
use Rattle.paw_author.specs.Fragments.{Fragments}
use Rattle.paw_author.specs.Tokens.{leading_word, token_at, is_same}

-- ---- tables ----

-- The number that n and the decimal digits after it are, if there are no other bytes; 256 stands for any from there on.
unfoldable pub number_after : ℕ → Bytes → Option ℕ
number_after n [] = Some n
number_after n (b ∷ bs) =
    if is_ascii_digit b then number_after (min (10 * n + (b - 48)) TABLE_NUMBERS) bs else None

-- Whether a token is a number in decimal digits.
abbrev pub is_number : Token → Bool
is_number token = not (length token == 0) && is_some (number_after 0 token)

-- The number that a word is; 256 stands for any number from there on.
abbrev pub written_number : Token → Option ℕ
written_number word = if is_number word then number_after 0 word else None

-- The section of the table with this number.
abbrev pub numbered_table : Option ℕ → ℕ
numbered_table None = NAMED_TABLES
numbered_table (Some n) = if nat_lt n TABLE_NUMBERS then TABLES + n else NAMED_TABLES

-- The section of the table that a word names: each number below 256 has one, and all other tables share the last.
abbrev pub table_section : Token → ℕ
table_section word = if length word == 0 then NAMED_TABLES else numbered_table (number_after 0 word)

-- ---- headers ----

-- The headers of sections but tables, in the order in which the sections come out.
abbrev pub headers : Names
headers =
    codes "/NAMES" ∷ codes "/KINDS" ∷ codes "/THINGS" ∷ codes "/LNG" ∷ codes "/VOC" ∷ codes "/STX" ∷ codes "/MTX"
    ∷ codes "/OTX" ∷ codes "/LTX" ∷ codes "/CON" ∷ codes "/OBJ" ∷ []

-- The index of the name that a word is, in any case of letters.
abbrev pub index_of_name : Names → Token → Option ℕ
index_of_name names word = position (λ name. is_same word name) names

-- Whether a line is the header of a table.
abbrev pub is_table_header : Fragments → Bool
is_table_header line = is_same (leading_word line) (codes "/PRO")

-- The section that a line begins, where it is a header. What stands above the first header of a file is section 0.
abbrev pub header_section : Fragments → Option ℕ
header_section line =
    if is_table_header line then Some (table_section (token_at 1 line))
    else option_map (λ i. i + 1) (index_of_name headers (leading_word line))

-- ---- what a section holds ----

-- Whether a section holds texts below items.
abbrev pub has_texts : ℕ → Bool
has_texts section = nat_le LETTERS section && nat_lt section EXITS && not (section == WORDS)

-- Whether a section holds items.
abbrev pub has_items : ℕ → Bool
has_items section = has_texts section || section == EXITS || section == KINDS || section == THINGS

-- Whether a section holds facts of kinds or things.
abbrev pub has_facts : ℕ → Bool
has_facts section = section == KINDS || section == THINGS

-- Whether a section is a table.
abbrev pub is_table_section : ℕ → Bool
is_table_section section = nat_le TABLES section
