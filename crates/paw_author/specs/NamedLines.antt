-- Lines with numbers in the place of names.
use Rattle.std.specs.Prelude.{ℕ, ◌-◌, ◌==◌, ◌&&◌, ◌||◌, Bool, true, false, not, List, [], ◌∷◌, ◌++◌, drop, map}
use Rattle.std.specs.Prelude.{if◌then◌else◌, Option, Some, None, decimal}
use Rattle.paw_base.specs.Bytes.{Bytes, Token}
use Rattle.paw_base.specs.Condacts.{code_named, first_kind, second_kind}
use Rattle.paw_base.specs.declared.rows.ParamKind.{ParamKind}
use Rattle.paw_base.specs.declared.rows.ParamKind.TheVariants as param
use Rattle.paw_author.specs.declared.known.NameKind.TheVariants as name
use Rattle.paw_author.specs.declared.sections.TheConstants.{WORDS, EXITS, OBJECTS, TABLES}
use Rattle.paw_author.specs.declared.units.UnitKind.{UnitKind}
use Rattle.paw_author.specs.declared.units.UnitKind.TheVariants.{Item}
use Rattle.paw_author.specs.Fragments.{WithOrigin, Fragments, LinesInParts}
use Rattle.paw_author.specs.Known.{KnownNames, number_for, number_of_any}
use Rattle.paw_author.specs.Sections.{is_number, is_table_section}
use Rattle.paw_author.specs.TableNumbers.{is_numbered}
use Rattle.paw_author.specs.Tokens.{is_token, starts_with_byte}
use Rattle.paw_author.specs.Units.{UnitLines, is_data_unit}

-- ---- tokens ----

-- The number that a word stands for as a parameter of this kind. Words of the vocabulary stand for none.
abbrev pub number_meant : ParamKind → Token → KnownNames → Option ℕ
number_meant param.Location word known = number_for name.Location word known
number_meant param.Place word known = number_for name.Location word known
number_meant param.Object word known = number_for name.Object word known
number_meant param.Flag word known = number_for name.Flag word known
number_meant param.Number word known = number_of_any word known
number_meant param.Message word known = number_for name.Message word known
number_meant param.System word known = number_for name.System word known
number_meant param.Table word known = number_for name.Table word known
number_meant _ word known = None

-- A number in decimal after these bytes; the word itself where it stands for none.
abbrev pub word_or_number : Token → Bytes → Option ℕ → Token
word_or_number word before None = word
word_or_number word before (Some n) = before ++ decimal n

-- A parameter with its number in the place of a name; after `@` stands the name of a flag.
abbrev pub parameter_named : KnownNames → ParamKind → Token → Token
parameter_named known kind word =
    if starts_with_byte 64 word then word_or_number word (64 ∷ []) (number_for name.Flag (drop 1 word) known)
    else word_or_number word [] (number_meant kind word known)

-- ---- entries ----

-- The kinds of parameters that a condact has, each as a list of one or none.
abbrev pub kind_list : ParamKind → List ParamKind
kind_list param.Absent = []
kind_list kind = kind ∷ []

-- The kinds of the parameters of the condact with this code.
abbrev pub kinds_of : Option ℕ → List ParamKind
kinds_of None = []
kinds_of (Some code) = kind_list (first_kind code) ++ kind_list (second_kind code)

-- The parameters that are still to come after a word: where none are, the word is the name of a condact.
abbrev pub kinds_behind : List ParamKind → Token → List ParamKind
kinds_behind [] word = kinds_of (code_named word)
kinds_behind (kind ∷ kinds) word = kinds

-- The parameters that are still to come after a part; `+` has a number after it.
abbrev pub kinds_left : List ParamKind → Bytes → List ParamKind
kinds_left kinds part =
    if not (is_token part) then kinds
    else if starts_with_byte 43 part then param.Number ∷ kinds
    else kinds_behind kinds part

-- The bytes of a part where these parameters are still to come.
abbrev pub part_named : KnownNames → List ParamKind → Bytes → Bytes
part_named known [] part = part
part_named known (kind ∷ kinds) part = if is_token part then parameter_named known kind part else part

-- A line of an entry, where these parameters are still to come.
unfoldable pub line_named : KnownNames → List ParamKind → Fragments → Fragments
line_named known kinds [] = []
line_named known kinds (part ∷ parts) =
    record part { bytes = part_named known kinds part.bytes } ∷ line_named known (kinds_left kinds part.bytes) parts

-- Before the condacts of the first line of an entry stand two words.
abbrev pub two_words : List ParamKind
two_words = param.Noun ∷ param.Noun ∷ []

-- The words that a row may have after its numbers, and more.
abbrev pub some_words : List ParamKind
some_words = param.Noun ∷ param.Noun ∷ param.Noun ∷ param.Noun ∷ param.Noun ∷ param.Noun ∷ []

-- Whether a unit is an item.
abbrev pub is_item : UnitKind → Bool
is_item Item = true
is_item _ = false

-- The lines of an entry.
abbrev pub entry_named : KnownNames → LinesInParts → LinesInParts
entry_named known [] = []
entry_named known (line ∷ lines) = line_named known two_words line ∷ map (λ more. line_named known [] more) lines

-- ---- headers of tables ----

-- A number as it is written, or this one in the place of a name.
abbrev pub number_part : ℕ → WithOrigin → WithOrigin
number_part number part = if is_number part.bytes then part else record part { bytes = decimal number }

-- What stands after the number of a table, without its name and the blanks before that.
abbrev pub without_name : Fragments → Fragments
without_name [] = []
without_name (gap ∷ []) = gap ∷ []
without_name (gap ∷ name ∷ rest) = if is_token name.bytes then rest else gap ∷ name ∷ rest

-- The header of the table with this number: `/PRO`, blanks, the number or name, and what stands after it.
abbrev pub header_named : ℕ → Fragments → Fragments
header_named number [] = []
header_named number (mark ∷ []) = mark ∷ []
header_named number (mark ∷ gap ∷ []) = mark ∷ gap ∷ []
header_named number (mark ∷ gap ∷ word ∷ rest) = mark ∷ gap ∷ number_part number word ∷ without_name rest

-- The lines of a header: below it stand comments alone.
abbrev pub first_line_named : ℕ → LinesInParts → LinesInParts
first_line_named number [] = []
first_line_named number (line ∷ lines) = header_named number line ∷ lines

-- ---- units ----

-- Whether a unit is an entry: a row of a table.
abbrev pub is_table_entry : UnitLines → Bool
is_table_entry u = is_table_section u.section && is_data_unit u.kind

-- What the tokens of a row name, by its section. Where no numbers stand, all are words.
abbrev pub data_kinds : ℕ → List ParamKind
data_kinds section =
    if section == WORDS then param.Noun ∷ param.Number ∷ some_words
    else if section == EXITS then param.Noun ∷ param.Location ∷ some_words
    else if section == OBJECTS then param.Object ∷ param.Place ∷ param.Number ∷ some_words
    else some_words

-- The lines of a row: its first line has its tokens.
abbrev pub data_named : KnownNames → List ParamKind → LinesInParts → LinesInParts
data_named known kinds [] = []
data_named known kinds (line ∷ lines) = line_named known kinds line ∷ lines

-- Whether a unit is a row of words, exits or objects.
abbrev pub has_numbers : UnitLines → Bool
has_numbers u = is_data_unit u.kind && (u.section == WORDS || u.section == EXITS || u.section == OBJECTS)

-- Whether a unit is an item of exits, which has the name of a location.
abbrev pub is_exits_item : UnitLines → Bool
is_exits_item u = is_item u.kind && u.section == EXITS

-- The number of a location in the place of its name, after `/`.
abbrev pub mark_named : KnownNames → WithOrigin → WithOrigin
mark_named known part =
    record part { bytes = word_or_number part.bytes (47 ∷ []) (number_for name.Location (drop 1 part.bytes) known) }

-- The first line of an item of exits, which begins with such a name.
abbrev pub mark_line : KnownNames → Fragments → Fragments
mark_line known [] = []
mark_line known (part ∷ parts) = mark_named known part ∷ parts

-- The lines of an item of exits.
abbrev pub item_named : KnownNames → LinesInParts → LinesInParts
item_named known [] = []
item_named known (line ∷ lines) = mark_line known line ∷ lines

-- The lines of a unit outside of tables.
abbrev pub other_lines : KnownNames → UnitLines → LinesInParts
other_lines known u =
    if has_numbers u then data_named known (data_kinds u.section) u.lines
    else if is_exits_item u then item_named known u.lines
    else u.lines

-- The lines of a unit with numbers in the place of names.
abbrev pub lines_named : KnownNames → UnitLines → LinesInParts
lines_named known u =
    if is_table_entry u then entry_named known u.lines
    else if is_numbered u then first_line_named (u.section - TABLES) u.lines
    else other_lines known u

-- A unit with these lines.
abbrev pub unit_named : KnownNames → UnitLines → UnitLines
unit_named known u = record u { lines = lines_named known u }
