-- Places that are marked in tables: entries of other files stand there.
use Rattle.std.specs.Prelude.{◌==◌, ◌&&◌, ◌||◌, Bool, true, false, not, List, [], ◌∷◌, ◌++◌, filter, length, map, slice_get}
use Rattle.std.specs.Prelude.{if◌then◌else◌, Option, Some, None, Result, Ok, Err}
use Rattle.std.specs.List.{list_any, flat_map}
use Rattle.paw_base.specs.Bytes.{Name, Names}
use Rattle.paw_base.specs.declared.fault.SourceKind.TheVariants.{Section, Duplicate}
use Rattle.paw_read_error.specs.Bind.{◌>>=◌}
use Rattle.paw_author.specs.declared.mistake.Mistake.{Mistake}
use Rattle.paw_author.specs.declared.sections.TheConstants.{NAMED_TABLES}
use Rattle.paw_author.specs.declared.units.UnitKind.{UnitKind}
use Rattle.paw_author.specs.declared.units.UnitKind.TheVariants.{Header, Hook}
use Rattle.paw_author.specs.Fragments.{Fragments, LinesInParts}
use Rattle.paw_author.specs.Mistakes.{wrong_line}
use Rattle.paw_author.specs.Tokens.{line_origin, token_at, is_same}
use Rattle.paw_author.specs.Units.{UnitLines}

-- ---- what a unit is ----

-- Whether a unit begins with a header.
abbrev pub is_header : UnitKind → Bool
is_header Header = true
is_header _ = false

-- Whether a unit marks a place.
abbrev pub is_hook_kind : UnitKind → Bool
is_hook_kind Hook = true
is_hook_kind _ = false

-- A line, if there is one.
abbrev pub line_or_none : Option Fragments → Fragments
line_or_none None = []
line_or_none (Some line) = line

-- The line that a unit begins with.
abbrev pub first_line : UnitLines → Fragments
first_line u = line_or_none (slice_get u.lines 0)

-- The name of the place that a unit marks; no byte where it has none.
abbrev pub hook_name : UnitLines → Name
hook_name u = token_at 1 (first_line u)

-- The names of the places that are marked; no byte for those without a name.
abbrev pub hook_names : List UnitLines → Names
hook_names all = map (λ u. hook_name u) (filter (λ u. is_hook_kind u.kind) all)

-- Whether a unit stands in a table whose name is that of a place, and so for that place.
abbrev pub is_for_hook : Names → UnitLines → Bool
is_for_hook hooks u = u.section == NAMED_TABLES && list_any (λ hook. is_same hook u.table) hooks

-- ---- faults ----

-- Whether two units stand in the same table of the same file.
abbrev pub stand_together : UnitLines → UnitLines → Bool
stand_together u v = u.file == v.file && u.section == v.section && is_same u.table v.table

-- Whether two units mark one place: they have the same name, or no name and stand in the same table of a file.
abbrev pub mark_the_same : UnitLines → UnitLines → Bool
mark_the_same u v =
    is_hook_kind v.kind && is_same (hook_name u) (hook_name v)
    && (not (length (hook_name u) == 0) || stand_together u v)

-- A place is marked once, and not among the entries for a place.
abbrev pub hook_known : Names → List UnitLines → UnitLines → Result (Unit {0}) Mistake
hook_known hooks before u =
    if not (is_hook_kind u.kind) then Ok tt
    else if is_for_hook hooks u then Err (wrong_line (line_origin (first_line u)) Section)
    else if list_any (λ v. mark_the_same u v) before then Err (wrong_line (line_origin (first_line u)) Duplicate)
    else Ok tt

-- Each of these units, where those before them were looked at.
unfoldable pub hooks_known : Names → List UnitLines → List UnitLines → Result (Unit {0}) Mistake
hooks_known hooks before [] = Ok tt
hooks_known hooks before (u ∷ us) = hook_known hooks before u >>= λ _. hooks_known hooks (before ++ u ∷ []) us

-- ---- lines ----

-- Whether a unit is an entry for the place with this name.
abbrev pub is_entry_for : Name → UnitLines → Bool
is_entry_for name u = u.section == NAMED_TABLES && is_same u.table name && not (is_header u.kind)

-- The lines of the entries for the place with this name.
abbrev pub lines_for : Name → List UnitLines → LinesInParts
lines_for name all = flat_map (λ u. u.lines) (filter (λ u. is_entry_for name u) all)

-- The lines that come out for a unit. For a place with a name these are the entries for it.
abbrev pub unit_lines : List UnitLines → UnitLines → LinesInParts
unit_lines all u =
    if not (is_hook_kind u.kind) then u.lines
    else if length (hook_name u) == 0 then []
    else lines_for (hook_name u) all
