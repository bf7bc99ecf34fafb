-- The plain source of the files that an author writes.
use Rattle.std.specs.Prelude.{◌≡◌, ℕ, ◌&&◌, Bool, List, [], ◌∷◌, length, map, nat_le, if◌then◌else◌, Result, Ok, Err}
use Rattle.paw_base.specs.Bytes.{Names}
use Rattle.paw_base.specs.declared.limits.TheConstants.{SOURCE_LIMIT}
use Rattle.paw_read_error.specs.Bind.{◌>>=◌}
use Rattle.paw_read_error.specs.declared.read_error.ReadError.{ReadError}
use Rattle.paw_read_error.specs.declared.read_error.ReadError.TheVariants.{Memory, Fault}
use Rattle.paw_author.specs.declared.mistake.Mistake.{Mistake}
use Rattle.paw_author.specs.FileLines.{file_lines}
use Rattle.paw_author.specs.Files.{NamedFile, NamedFiles}
use Rattle.paw_author.specs.Fragments.{LinesInParts}
use Rattle.paw_author.specs.Hooks.{hook_names, hooks_known}
use Rattle.paw_author.specs.Includes.{order_of_files}
use Rattle.paw_author.specs.Joining.{files_chosen, order_joined}
use Rattle.paw_author.specs.Order.{in_order}
use Rattle.paw_author.specs.Known.{KnownNames}
use Rattle.paw_author.specs.NamedLines.{unit_named}
use Rattle.paw_author.specs.NameRows.{names_known}
use Rattle.paw_author.specs.PlainSources.{is_plain_source}
use Rattle.paw_author.specs.TableNumbers.{tables_known, unit_numbered}
use Rattle.paw_author.specs.Units.{UnitLines}

-- Whether a file is a plain source that isn't too long.
abbrev pub is_plain_file : NamedFile → Bool
is_plain_file file = nat_le (length file.bytes) SOURCE_LIMIT && is_plain_source (file_lines 0 file.bytes)

-- The lines of units whose tables have numbers, with numbers in the place of names.
abbrev pub named_lines : ℕ → Names → KnownNames → List UnitLines → Result LinesInParts Mistake
named_lines files hooks known units =
    hooks_known hooks [] units >>= λ _. Ok (in_order files (map (λ u. unit_named known u) units))

-- The lines of units, where tables have these names.
abbrev pub lines_with_tables : ℕ → Names → KnownNames → List UnitLines → Result LinesInParts Mistake
lines_with_tables files hooks known units = named_lines files hooks known (map (λ u. unit_numbered hooks known u) units)

-- The lines of units, where places have these names.
abbrev pub hooked_lines : ℕ → Names → List UnitLines → Result LinesInParts Mistake
hooked_lines files hooks units =
    names_known units >>= λ names. tables_known hooks names units >>= λ known. lines_with_tables files hooks known units

-- The lines of these units of a number of files.
abbrev pub lines_of_units : ℕ → List UnitLines → Result LinesInParts Mistake
lines_of_units files units = hooked_lines files (hook_names units) units

-- The lines of these files by sections, or the first mistake.
abbrev pub joined_lines : Names → NamedFiles → Result LinesInParts Mistake
joined_lines switches files =
    files_chosen switches 0 [] files >>= λ chosen. order_of_files chosen >>= λ row. order_joined chosen 0 [] row
    >>= λ units. lines_of_units (length row) units

-- The lines of the plain source, or the first mistake. A first file that is a plain source comes out as it is.
abbrev pub plain_lines : Names → NamedFiles → Result LinesInParts Mistake
plain_lines switches [] = Ok []
plain_lines switches (file ∷ files) =
    if is_plain_file file then Ok (file_lines 0 file.bytes) else joined_lines switches (file ∷ files)

-- What is answered is the plain source or the first mistake. Lack of memory says nothing.
abbrev pub IsAnswered : Result LinesInParts (ReadError Mistake) → Result LinesInParts Mistake → Type 0
IsAnswered (Ok lines) plain = plain ≡ Ok lines
IsAnswered (Err Memory) plain = Unit {0}
IsAnswered (Err (Fault mistake)) plain = plain ≡ Err mistake
