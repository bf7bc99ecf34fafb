-- The order in which the units of several files come out.
use Rattle.std.specs.Prelude.{ℕ, zero, suc, ◌==◌, ◌&&◌, Bool, false, not, List, [], ◌∷◌, ◌++◌, ◌-◌, length, take, drop, filter, find, nat_le}
use Rattle.std.specs.Prelude.{if◌then◌else◌, Option, Some, None, slice_get, codes}
use Rattle.std.specs.List.{position, flat_map}
use Rattle.paw_base.specs.Bytes.{Bytes, Lines}
use Rattle.paw_author.specs.declared.sections.TheConstants.{NAMES, SECTIONS, WORDS}
use Rattle.paw_author.specs.Fragments.{Fragments, LinesInParts}
use Rattle.paw_author.specs.Hooks.{is_header, is_hook_kind, hook_name, unit_lines}
use Rattle.paw_author.specs.Tokens.{bytes_if_any, line_origin}
use Rattle.paw_author.specs.Units.{UnitLines}

-- ---- headers ----

-- A line that is made, and stands for nothing that is written.
abbrev pub made_line : Option Bytes → LinesInParts
made_line None = []
made_line (Some bytes) = (record { origin = record { file = 0; line = 0; column = 0 }; bytes = bytes } ∷ []) ∷ []

-- The headers that each plain source has, in their order.
abbrev pub made_headers : Lines
made_headers =
    codes "/VOC\n" ∷ codes "/STX\n" ∷ codes "/MTX\n" ∷ codes "/OTX\n" ∷ codes "/LTX\n" ∷ codes "/CON\n" ∷ codes "/OBJ\n"
    ∷ codes "/PRO 0\n" ∷ codes "/PRO 1\n" ∷ codes "/PRO 2\n" ∷ []

-- The header of a section that has none: one is made where each plain source has it.
abbrev pub header_made : ℕ → LinesInParts
header_made section = if nat_le WORDS section then made_line (slice_get made_headers (section - WORDS)) else []

-- Whether a unit is a header of this section.
abbrev pub is_header_of : ℕ → UnitLines → Bool
is_header_of section u = is_header u.kind && u.section == section

-- The header of a section: the first one that is written, with the comments below it, or one that is made.
abbrev pub header_or_made : ℕ → Option UnitLines → LinesInParts
header_or_made section None = header_made section
header_or_made section (Some u) = u.lines

-- ---- the units of a section ----

-- Whether a unit comes out in this section as one of this file.
abbrev pub is_own : ℕ → ℕ → UnitLines → Bool
is_own section file u = u.section == section && u.file == file && not (is_header u.kind)

-- Whether a unit marks the place for the entries of the files above its own.
abbrev pub is_open_hook : ℕ → ℕ → UnitLines → Bool
is_open_hook section file u = is_own section file u && is_hook_kind u.kind && length (hook_name u) == 0

-- The lines that come out in a section for these units of a file.
abbrev pub own_lines : List UnitLines → ℕ → ℕ → List UnitLines → LinesInParts
own_lines all section file units = flat_map (λ u. unit_lines all u) (filter (λ u. is_own section file u) units)

-- The lines of a section with those of one file more: around the lines of the files above it where a place is marked
-- for them, and after them where none is.
abbrev pub lines_with_file : List UnitLines → ℕ → ℕ → LinesInParts → Option ℕ → LinesInParts
lines_with_file all section file above None = above ++ own_lines all section file all
lines_with_file all section file above (Some i) =
    own_lines all section file (take i all) ++ above ++ own_lines all section file (drop (suc i) all)

-- The lines of a section in the first files, without its header.
unfoldable pub lines_in_files : List UnitLines → ℕ → ℕ → LinesInParts
lines_in_files all section zero = []
lines_in_files all section (suc file) =
    lines_with_file all section file (lines_in_files all section file) (position (λ u. is_open_hook section file u) all)

-- How many files have lines in a section: above the headers only the first has.
abbrev pub files_of : ℕ → ℕ → ℕ
files_of files section = if section == 0 then 1 else files

-- The header of a section.
abbrev pub header_lines : List UnitLines → ℕ → LinesInParts
header_lines all section = header_or_made section (find (λ u. is_header_of section u) all)

-- The lines of a section: its header, and then the units of all files. Rows of names are left out.
abbrev pub section_lines : ℕ → List UnitLines → ℕ → LinesInParts
section_lines files all section =
    if section == NAMES then [] else header_lines all section ++ lines_in_files all section (files_of files section)

-- The lines of n sections from this one on, one section after another.
unfoldable pub sections : ℕ → ℕ → ℕ → List UnitLines → LinesInParts
sections zero section files all = []
sections (suc n) section files all = section_lines files all section ++ sections n (suc section) files all

-- ---- line ends ----

-- Whether a byte is an LF.
abbrev pub is_lf : Option ℕ → Bool
is_lf None = false
is_lf (Some b) = b == 10

-- Whether bytes end with an LF.
abbrev pub ends_with_lf : Bytes → Bool
ends_with_lf bytes = is_lf (slice_get bytes (length bytes - 1))

-- Whether a line has its line end: only the last one of a file may lack it.
abbrev pub has_line_end : Fragments → Bool
has_line_end line = ends_with_lf (bytes_if_any (slice_get line (length line - 1)))

-- A line with a line end.
abbrev pub ended_line : Fragments → Fragments
ended_line line =
    if has_line_end line then line else line ++ record { origin = line_origin line; bytes = 10 ∷ [] } ∷ []

-- All lines, of which each but the last has a line end.
unfoldable pub all_ended : LinesInParts → LinesInParts
all_ended [] = []
all_ended (line ∷ lines) = (if length lines == 0 then line else ended_line line) ∷ all_ended lines

-- ---- all units ----

-- The lines of all units in the order in which they come out.
abbrev pub in_order : ℕ → List UnitLines → LinesInParts
in_order files all = all_ended (sections SECTIONS 0 files all)
