-- Lines that belong together: what each line of a file begins, or goes on with.
use Rattle.std.specs.Prelude.{ℕ, ◌==◌, ◌&&◌, ◌||◌, Bool, true, false, not, List, [], ◌∷◌, ◌++◌, length, nat_lt}
use Rattle.std.specs.Prelude.{if◌then◌else◌, Option, Some, None, Result, Ok, Err, slice_get, codes}
use Rattle.paw_base.specs.Bytes.{Name}
use Rattle.paw_base.specs.declared.fault.SourceKind.TheVariants.{Section, Missing, Extra}
use Rattle.paw_read_error.specs.Bind.{◌>>=◌}
use Rattle.paw_author.specs.declared.mistake.Mistake.{Mistake}
use Rattle.paw_author.specs.declared.sections.TheConstants.{NAMED_TABLES}
use Rattle.paw_author.specs.declared.units.UnitKind.{UnitKind}
use Rattle.paw_author.specs.declared.units.UnitKind.TheVariants.{Top, Header, Hook, Item, Row}
use Rattle.paw_author.specs.Fragments.{Fragments, LinesInParts}
use Rattle.paw_author.specs.Includes.{is_include}
use Rattle.paw_author.specs.Mistakes.{wrong_line}
use Rattle.paw_author.specs.Sections.{is_number, is_table_header, header_section, has_texts, has_items, has_facts, is_table_section}
use Rattle.paw_author.specs.Tokens.{line_origin, leading_word, line_tokens, token_at, token_count}
use Rattle.paw_author.specs.Tokens.{is_same, is_quoted, starts_with_slash, origin_of, texts_end}

-- Lines that belong together: the line that begins the unit, and those that go on with it. A unit has the section and
-- the file in which it stands; in a table without a number also the name of the table.
pub record UnitLines : Type 0 where
  pub section : ℕ
  pub table : Name
  pub file : ℕ
  pub kind : UnitKind
  pub lines : LinesInParts

-- The units so far, the one that was begun last, and whether an item of its section stands above.
pub record UnitsRead : Type 0 where
  pub units : List UnitLines
  pub last : UnitLines
  pub item : Bool

-- A unit begins with a line, and the one before it ends.
abbrev pub unit_begun : UnitKind → ℕ → Name → Bool → Fragments → UnitsRead → UnitsRead
unit_begun kind section table item line s = record {
  units = s.units ++ s.last ∷ [];
  last = record { section = section; table = table; file = s.last.file; kind = kind; lines = line ∷ [] };
  item = item;
}

-- A unit of the same section begins.
abbrev pub begun_here : UnitKind → Fragments → UnitsRead → UnitsRead
begun_here kind line s = unit_begun kind s.last.section s.last.table s.item line s

-- A line goes on with the unit that was begun last.
abbrev pub longer_unit : Fragments → UnitsRead → UnitsRead
longer_unit line s = record s { last = record s.last { lines = s.last.lines ++ line ∷ [] } }

-- ---- lines that begin nothing ----

-- Whether a line is one of a text, or a comment below it: it stands below an item of a section of texts, and begins
-- with no `/`.
abbrev pub is_line_of_text : UnitsRead → Fragments → Bool
is_line_of_text s line = s.item && has_texts s.last.section && not (starts_with_slash line)

-- Whether a line goes with the one above it whatever that is: a line of a text, a comment, or a line without tokens.
abbrev pub is_aside : UnitsRead → Fragments → Bool
is_aside s line = is_line_of_text s line || token_count line == 0

-- ---- headers, hooks and items ----

-- A line that has at most this many tokens; the next one is too many.
abbrev pub has_at_most : ℕ → Fragments → Result (Unit {0}) Mistake
has_at_most count line =
    if nat_lt count (token_count line) then Err (wrong_line (origin_of (slice_get (line_tokens line) count)) Extra) else Ok tt

-- The header of a table has a number, a name, or a number and a name; any other header stands alone.
abbrev pub header_ends : Fragments → Result (Unit {0}) Mistake
header_ends line =
    if not (is_table_header line) then has_at_most 1 line
    else if token_count line == 1 then Err (wrong_line (line_origin line) Missing)
    else has_at_most (if is_number (token_at 1 line) then 3 else 2) line

-- The name by which a table without a number is known.
abbrev pub table_name : ℕ → Fragments → Name
table_name section line = if section == NAMED_TABLES then token_at 1 line else []

-- A header begins a section.
abbrev pub header_read : ℕ → UnitsRead → Fragments → Result UnitsRead Mistake
header_read section s line = header_ends line >>= λ _. Ok (unit_begun Header section (table_name section line) false line s)

-- Whether a line marks a place in a table.
abbrev pub is_hook : Fragments → Bool
is_hook line = is_same (leading_word line) (codes "/HOOK")

-- A place is marked in a table alone, with a name or none.
abbrev pub hook_read : UnitsRead → Fragments → Result UnitsRead Mistake
hook_read s line =
    if is_table_section s.last.section then (has_at_most 2 line >>= λ _. Ok (begun_here Hook line s))
    else Err (wrong_line (line_origin line) Section)

-- An item begins in a section that has items.
abbrev pub item_read : UnitsRead → Fragments → Result UnitsRead Mistake
item_read s line =
    if has_items s.last.section then Ok (unit_begun Item s.last.section s.last.table true line s)
    else Err (wrong_line (line_origin line) Section)

-- A line that includes a file stands above the first header of its file, and is left out.
abbrev pub include_read : UnitsRead → Fragments → Result UnitsRead Mistake
include_read s line = if s.last.section == 0 then Ok s else Err (wrong_line (line_origin line) Section)

-- A line that begins with `/` includes a file, or is a hook or an item.
abbrev pub slash_read : UnitsRead → Fragments → Result UnitsRead Mistake
slash_read s line =
    if is_include line then include_read s line
    else if is_hook line then hook_read s line
    else item_read s line

-- What begins with `/`: a header, where its name is that of one.
abbrev pub marked_read : Option ℕ → UnitsRead → Fragments → Result UnitsRead Mistake
marked_read None s line = slash_read s line
marked_read (Some section) s line = header_read section s line

-- ---- rows and entries ----

-- Whether a unit is a row or an entry.
abbrev pub is_data_unit : UnitKind → Bool
is_data_unit Row = true
is_data_unit _ = false

-- Whether a line has more of what stands above it: in a table it begins with a blank, among facts with a text.
abbrev pub has_more : ℕ → Fragments → Bool
has_more section line =
    if is_table_section section then length (leading_word line) == 0
    else has_facts section && is_quoted (token_at 0 line)

-- More of a row needs a row.
abbrev pub more_read : UnitsRead → Fragments → Result UnitsRead Mistake
more_read s line = if is_data_unit s.last.kind then Ok (longer_unit line s) else Err (wrong_line (line_origin line) Section)

-- A row stands in a section, and below an item where the section has items.
abbrev pub may_have_data : UnitsRead → Bool
may_have_data s = not (s.last.section == 0) && not (has_items s.last.section && not s.item)

-- A line that begins with no `/` is a row, or more of one.
abbrev pub data_read : UnitsRead → Fragments → Result UnitsRead Mistake
data_read s line =
    if not (may_have_data s) then Err (wrong_line (line_origin line) Section)
    else if has_more s.last.section line then more_read s line
    else Ok (begun_here Row line s)

-- ---- lines and files ----

-- What there is after a line that begins something or has more of it.
abbrev pub meant_read : UnitsRead → Fragments → Result UnitsRead Mistake
meant_read s line =
    if starts_with_slash line then marked_read (header_section line) s line else data_read s line

-- What there is after a line more.
abbrev pub line_read : UnitsRead → Fragments → Result UnitsRead Mistake
line_read s line =
    if is_aside s line then Ok (longer_unit line s)
    else texts_end line >>= λ _. meant_read s line

-- What there is after all these lines of a file.
unfoldable pub lines_read : UnitsRead → LinesInParts → Result UnitsRead Mistake
lines_read s [] = Ok s
lines_read s (line ∷ lines) = line_read s line >>= λ next. lines_read next lines

-- What stands above the first header of a file is a unit of its own, also where there is no line.
abbrev pub top_of_file : ℕ → UnitLines
top_of_file file = record { section = 0; table = []; file = file; kind = Top; lines = [] }

-- The units of a file more.
abbrev pub file_read : ℕ → List UnitLines → LinesInParts → Result (List UnitLines) Mistake
file_read file units lines =
    lines_read (record { units = units; last = top_of_file file; item = false }) lines
    >>= λ s. Ok (s.units ++ s.last ∷ [])
