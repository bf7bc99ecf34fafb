-- The files that are read, and the units of those that stand in the row.
use Rattle.std.specs.Prelude.{ℕ, suc, ◌&&◌, not, List, [], ◌∷◌, ◌++◌, length, nat_lt, nat_le, if◌then◌else◌, Result, Ok, Err, slice_get}
use Rattle.paw_base.specs.Bytes.{Names}
use Rattle.paw_base.specs.declared.fault.SourceKind.TheVariants.{TooBig}
use Rattle.paw_base.specs.declared.limits.TheConstants.{SOURCE_LIMIT}
use Rattle.paw_read_error.specs.Bind.{◌>>=◌}
use Rattle.paw_author.specs.declared.mistake.Mistake.{Mistake}
use Rattle.paw_author.specs.declared.joining.TheConstants.{FILE_LIMIT}
use Rattle.paw_author.specs.Choices.{chosen_lines}
use Rattle.paw_author.specs.FileLines.{file_lines}
use Rattle.paw_author.specs.Files.{NamedFile, NamedFiles}
use Rattle.paw_author.specs.Includes.{ReadFile, ReadFiles, FileOrder, lines_or_none}
use Rattle.paw_author.specs.Mistakes.{wrong_line}
use Rattle.paw_author.specs.Units.{UnitLines, file_read}

-- The taken lines of a file with this number. There are at most 255 files, each with at most 8,388,608 bytes.
abbrev pub file_chosen : Names → ℕ → NamedFile → Result ReadFile Mistake
file_chosen switches number file =
    if not (nat_lt number FILE_LIMIT && nat_le (length file.bytes) SOURCE_LIMIT)
    then Err (wrong_line (record { file = number; line = 0; column = 0 }) TooBig)
    else chosen_lines switches (file_lines number file.bytes) >>= λ lines. Ok (record { name = file.name; lines = lines })

-- The files so far with the taken lines of those from this number on.
unfoldable pub files_chosen : Names → ℕ → ReadFiles → NamedFiles → Result ReadFiles Mistake
files_chosen switches number chosen [] = Ok chosen
files_chosen switches number chosen (file ∷ files) =
    file_chosen switches number file >>= λ one. files_chosen switches (suc number) (chosen ++ one ∷ []) files

-- The units so far with those of the files that stand in the row from this place on.
unfoldable pub order_joined : ReadFiles → ℕ → List UnitLines → FileOrder → Result (List UnitLines) Mistake
order_joined files place units [] = Ok units
order_joined files place units (file ∷ row) =
    file_read place units (lines_or_none (slice_get files file)) >>= λ more. order_joined files (suc place) more row
