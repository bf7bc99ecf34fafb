-- The rows of `/NAMES`: a name, a number, and what it is the name of. A flag may have no number.
use Rattle.std.specs.Prelude.{ℕ, ◌-◌, ◌==◌, ◌&&◌, Bool, not, List, [], ◌∷◌, ◌++◌, drop, nat_lt, codes, option_to_list}
use Rattle.std.specs.Prelude.{if◌then◌else◌, Option, Some, None, Result, Ok, Err}
use Rattle.std.specs.List.{list_any, flat_map}
use Rattle.paw_base.specs.Bytes.{Bytes, Names, Token}
use Rattle.paw_base.specs.declared.fault.SourceKind.TheVariants as fault
use Rattle.paw_base.specs.declared.rows.ParamKind.{ParamKind}
use Rattle.paw_base.specs.declared.rows.ParamKind.TheVariants as param
use Rattle.paw_read_error.specs.Bind.{◌>>=◌}
use Rattle.paw_author.specs.declared.known.NameKind.{NameKind}
use Rattle.paw_author.specs.declared.known.NameKind.TheVariants.{Flag, Number, Location, Object, Message, System, Table}
use Rattle.paw_author.specs.declared.mistake.Mistake.{Mistake}
use Rattle.paw_author.specs.declared.name_rows.TheConstants.{FIRST_FLAG, FLAGS_GIVEN, NUMBERS}
use Rattle.paw_author.specs.declared.sections.TheConstants.{NAMES}
use Rattle.paw_author.specs.Fragments.{Fragments, LinesInParts}
use Rattle.paw_author.specs.Hooks.{first_line}
use Rattle.paw_author.specs.Known.{KnownNames, NumbersGiven, kind_index, may_be_name, name_for, given_once}
use Rattle.paw_author.specs.Mistakes.{wrong_line}
use Rattle.paw_author.specs.NamedLines.{kinds_left, two_words, is_table_entry}
use Rattle.paw_author.specs.Sections.{written_number}
use Rattle.paw_author.specs.Tokens.{token_origin, token_at, token_count, is_same, starts_with_byte}
use Rattle.paw_author.specs.Units.{UnitLines, is_data_unit}

-- ---- kinds ----

-- What a word says that a name is the name of.
abbrev pub kind_of_word : Token → Option NameKind
kind_of_word word =
    if is_same word (codes "flag") then Some Flag
    else if is_same word (codes "number") then Some Number
    else if is_same word (codes "location") then Some Location
    else if is_same word (codes "object") then Some Object
    else if is_same word (codes "message") then Some Message
    else if is_same word (codes "sysmess") then Some System
    else if is_same word (codes "table") then Some Table
    else None

-- Whether a name is that of a flag.
abbrev pub is_flag : NameKind → Bool
is_flag kind = kind_index kind == kind_index Flag

-- Whether a name is that of a location.
abbrev pub is_location : NameKind → Bool
is_location kind = kind_index kind == kind_index Location

-- The names of places that no location may have.
abbrev pub reserved_names : Names
reserved_names = codes "HERE" ∷ codes "WORN" ∷ codes "CARRIED" ∷ codes "NOTCREATED" ∷ []

-- Whether a word is the name of a place.
abbrev pub is_reserved_name : Token → Bool
is_reserved_name word = list_any (λ place. is_same word place) reserved_names

-- Whether a word may be a name of this kind.
abbrev pub may_name : NameKind → Token → Bool
may_name kind word = may_be_name word && not (is_location kind && is_reserved_name word)

-- ---- written numbers ----

-- Whether a unit is a row of `/NAMES`.
abbrev pub is_naming : UnitLines → Bool
is_naming u = u.section == NAMES && is_data_unit u.kind

-- The token of a row with this index.
abbrev pub nth_word : ℕ → UnitLines → Token
nth_word index u = token_at index (first_line u)

-- How many tokens a row has.
abbrev pub word_count : UnitLines → ℕ
word_count u = token_count (first_line u)

-- Whether a row gives a flag a number.
abbrev pub gives_flag_number : UnitLines → Bool
gives_flag_number u = word_count u == 3 && is_same (nth_word 2 u) (codes "flag")

-- The flag that a word writes, where these parameters are still to come.
abbrev pub flag_in_word : List ParamKind → Token → Option ℕ
flag_in_word (param.Flag ∷ kinds) word = written_number word
flag_in_word _ word = None

-- The flag that a part of an entry writes: one after `@`, or one that a word writes.
abbrev pub flag_in_part : List ParamKind → Bytes → Option ℕ
flag_in_part kinds part = if starts_with_byte 64 part then written_number (drop 1 part) else flag_in_word kinds part

-- The flags that a line of an entry writes.
unfoldable pub flags_in_line : List ParamKind → Fragments → List ℕ
flags_in_line kinds [] = []
flags_in_line kinds (part ∷ parts) =
    option_to_list (flag_in_part kinds part.bytes) ++ flags_in_line (kinds_left kinds part.bytes) parts

-- The flags that an entry writes.
abbrev pub flags_in_entry : LinesInParts → List ℕ
flags_in_entry [] = []
flags_in_entry (line ∷ lines) = flags_in_line two_words line ++ flat_map (λ more. flags_in_line [] more) lines

-- The flags that a unit writes.
abbrev pub flags_in_unit : UnitLines → List ℕ
flags_in_unit u =
    if is_naming u && gives_flag_number u then option_to_list (written_number (nth_word 1 u))
    else if is_table_entry u then flags_in_entry u.lines
    else []

-- The flags that all units write.
abbrev pub flags_written : List UnitLines → List ℕ
flags_written all = flat_map (λ u. flags_in_unit u) all

-- ---- rows ----

-- Whether two rows of a file are of one name and kind.
abbrev pub name_the_same : UnitLines → UnitLines → Bool
name_the_same u v =
    is_naming v && u.file == v.file && is_same (nth_word 0 u) (nth_word 0 v)
    && is_same (nth_word (word_count u - 1) u) (nth_word (word_count v - 1) v)

-- The names with that of a row that has a number.
abbrev pub naming_numbered : Option ℕ → NameKind → UnitLines → NumbersGiven → Result NumbersGiven Mistake
naming_numbered None kind u s = Err (wrong_line (token_origin 1 (first_line u)) fault.Number)
naming_numbered (Some n) kind u s =
    if nat_lt n NUMBERS then Ok (record s { known = s.known ++ name_for kind (nth_word 0 u) n ∷ [] })
    else Err (wrong_line (token_origin 1 (first_line u)) fault.Range)

-- The names with that of a row that has none: a flag gets the least that no entry and no row writes.
abbrev pub naming_given : NameKind → UnitLines → NumbersGiven → Result NumbersGiven Mistake
naming_given kind u s =
    if is_flag kind then given_once FIRST_FLAG FLAGS_GIVEN Flag (token_origin 0 (first_line u)) (nth_word 0 u) s
    else Err (wrong_line (token_origin 1 (first_line u)) fault.Missing)

-- The names with that of a row, which has two tokens or three.
abbrev pub naming_valued : NameKind → UnitLines → NumbersGiven → Result NumbersGiven Mistake
naming_valued kind u s =
    if word_count u == 2 then naming_given kind u s else naming_numbered (written_number (nth_word 1 u)) kind u s

-- The names with that of a row of this kind.
abbrev pub naming_of_kind : List UnitLines → Option NameKind → UnitLines → NumbersGiven → Result NumbersGiven Mistake
naming_of_kind before None u s = Err (wrong_line (token_origin (word_count u - 1) (first_line u)) fault.Word)
naming_of_kind before (Some kind) u s =
    if not (may_name kind (nth_word 0 u)) then Err (wrong_line (token_origin 0 (first_line u)) fault.Word)
    else if list_any (λ v. name_the_same u v) before then Err (wrong_line (token_origin 0 (first_line u)) fault.Duplicate)
    else naming_valued kind u s

-- The names with that of a row.
abbrev pub naming_known : List UnitLines → UnitLines → NumbersGiven → Result NumbersGiven Mistake
naming_known before u s =
    if nat_lt 3 (word_count u) then Err (wrong_line (token_origin 3 (first_line u)) fault.Extra)
    else if nat_lt (word_count u) 2 then Err (wrong_line (token_origin 0 (first_line u)) fault.Word)
    else naming_of_kind before (kind_of_word (nth_word (word_count u - 1) u)) u s

-- The names so far with those of all rows among these units, where those before them were read. Of rows with one name and
-- kind the nearest file's counts: it comes first.
unfoldable pub namings_known : List UnitLines → NumbersGiven → List UnitLines → Result NumbersGiven Mistake
namings_known before s [] = Ok s
namings_known before s (u ∷ us) =
    (if is_naming u then naming_known before u s else Ok s) >>= λ next. namings_known (before ++ u ∷ []) next us

-- The names of all rows.
abbrev pub names_known : List UnitLines → Result KnownNames Mistake
names_known all = namings_known [] (record { known = []; taken = flags_written all }) all >>= λ s. Ok s.known
