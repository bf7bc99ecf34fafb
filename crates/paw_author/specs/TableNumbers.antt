-- The numbers of tables: a table has the one that is written, and otherwise the least that no table has.
use Rattle.std.specs.Prelude.{ℕ, ◌+◌, ◌-◌, ◌==◌, ◌&&◌, Bool, not, List, [], ◌∷◌, ◌++◌, nat_lt, nat_le, filter, map}
use Rattle.std.specs.Prelude.{if◌then◌else◌, Option, Some, None, Result, Ok, Err}
use Rattle.paw_base.specs.Bytes.{Name, Names}
use Rattle.paw_base.specs.declared.fault.SourceKind.TheVariants.{Word, Duplicate}
use Rattle.paw_read_error.specs.Bind.{◌>>=◌}
use Rattle.paw_author.specs.declared.fragment.Origin.{Origin}
use Rattle.paw_author.specs.declared.known.NameKind.TheVariants.{Table}
use Rattle.paw_author.specs.declared.mistake.Mistake.{Mistake}
use Rattle.paw_author.specs.declared.sections.TheConstants.{TABLES, NAMED_TABLES}
use Rattle.paw_author.specs.declared.table_numbers.TheConstants.{FIRST_GIVEN, GIVEN_COUNT}
use Rattle.paw_author.specs.Hooks.{is_header, is_for_hook, first_line}
use Rattle.paw_author.specs.Known.{KnownName, KnownNames, NumbersGiven, kind_index, number_for, may_be_name, name_for, given_once}
use Rattle.paw_author.specs.Mistakes.{wrong_line}
use Rattle.paw_author.specs.Tokens.{token_origin, token_at, token_count}
use Rattle.paw_author.specs.Units.{UnitLines}

-- ---- written numbers ----

-- Whether a unit is the header of a table with a number.
abbrev pub is_numbered : UnitLines → Bool
is_numbered u = is_header u.kind && nat_le TABLES u.section && nat_lt u.section NAMED_TABLES

-- Whether a name is that of a table.
abbrev pub is_table_name : KnownName → Bool
is_table_name k = kind_index k.kind == kind_index Table

-- The numbers that are written.
abbrev pub numbers_written : List UnitLines → List ℕ
numbers_written all = map (λ u. u.section - TABLES) (filter (λ u. is_numbered u) all)

-- A name is known for one number alone.
abbrev pub known_once : ℕ → Option ℕ → Origin → Name → KnownNames → Result KnownNames Mistake
known_once number None origin name known = Ok (known ++ name_for Table name number ∷ [])
known_once number (Some other) origin name known =
    if other == number then Ok known else Err (wrong_line origin Duplicate)

-- The names so far with the one that stands after a number in a header.
abbrev pub name_written : UnitLines → KnownNames → Result KnownNames Mistake
name_written u known =
    if not (nat_lt 2 (token_count (first_line u))) then Ok known
    else if not (may_be_name (token_at 2 (first_line u))) then Err (wrong_line (token_origin 2 (first_line u)) Word)
    else known_once (u.section - TABLES) (number_for Table (token_at 2 (first_line u)) known) (token_origin 2 (first_line u))
    (token_at 2 (first_line u)) known

-- The names so far with all that stand after numbers.
unfoldable pub names_written : KnownNames → List UnitLines → Result KnownNames Mistake
names_written known [] = Ok known
names_written known (u ∷ us) =
    (if is_numbered u then name_written u known else Ok known) >>= λ more. names_written more us

-- ---- given numbers ----

-- Whether a unit is the header of a table with a name alone, which isn't that of a place.
abbrev pub is_named_table : Names → UnitLines → Bool
is_named_table hooks u = is_header u.kind && u.section == NAMED_TABLES && not (is_for_hook hooks u)

-- What is given for the header of a table with a name alone.
abbrev pub name_given : UnitLines → NumbersGiven → Result NumbersGiven Mistake
name_given u s =
    if may_be_name u.table then given_once FIRST_GIVEN GIVEN_COUNT Table (token_origin 1 (first_line u)) u.table s
    else Err (wrong_line (token_origin 1 (first_line u)) Word)

-- What is given for all these units.
unfoldable pub names_given : Names → NumbersGiven → List UnitLines → Result NumbersGiven Mistake
names_given hooks s [] = Ok s
names_given hooks s (u ∷ us) =
    (if is_named_table hooks u then name_given u s else Ok s) >>= λ next. names_given hooks next us

-- The numbers of tables that are known by a name.
abbrev pub numbers_known : KnownNames → List ℕ
numbers_known known = map (λ k. k.number) (filter (λ k. is_table_name k) known)

-- The numbers that tables have before any is given. Tables 0, 1 and 2 are always there.
abbrev pub first_taken : KnownNames → List UnitLines → List ℕ
first_taken known all = 0 ∷ 1 ∷ 2 ∷ (numbers_known known ++ numbers_written all)

-- The names so far with those of all tables.
abbrev pub tables_known : Names → KnownNames → List UnitLines → Result KnownNames Mistake
tables_known hooks known all =
    names_written known all >>= λ more.
    names_given hooks (record { known = more; taken = first_taken known all }) all >>= λ s. Ok s.known

-- ---- units ----

-- The unit of a table with this number.
abbrev pub moved_to_table : Option ℕ → UnitLines → UnitLines
moved_to_table None u = u
moved_to_table (Some n) u = record u { section = TABLES + n; table = [] }

-- A unit of a table with a name, in the table that has its number. What is for a place stays where it is.
abbrev pub unit_numbered : Names → KnownNames → UnitLines → UnitLines
unit_numbered hooks known u =
    if u.section == NAMED_TABLES && not (is_for_hook hooks u) then moved_to_table (number_for Table u.table known) u else u
