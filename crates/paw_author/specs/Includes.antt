-- The row of files: which files there are, by the lines that include them, and in which order they stand.
use Rattle.std.specs.Prelude.{ℕ, zero, suc, ◌-◌, ◌==◌, Bool, not, List, [], ◌∷◌, ◌++◌, length, take, if◌then◌else◌}
use Rattle.std.specs.Prelude.{Option, Some, None, Result, Ok, Err, bytes_eq, codes, slice_get}
use Rattle.std.specs.List.{list_any, position, suffix_len}
use Rattle.std.specs.Option.{ok_or}
use Rattle.paw_base.specs.Bytes.{Name}
use Rattle.paw_base.specs.declared.fault.SourceKind.TheVariants.{Section}
use Rattle.paw_read_error.specs.Bind.{◌>>=◌}
use Rattle.paw_author.specs.declared.fragment.Origin.{Origin}
use Rattle.paw_author.specs.declared.mistake.Mistake.{Mistake}
use Rattle.paw_author.specs.Fragments.{Fragments, LinesInParts}
use Rattle.paw_author.specs.Mistakes.{wrong_line, lost_file}
use Rattle.paw_author.specs.Tokens.{line_origin, origin_of, leading_word, line_tokens, token_at, token_count}
use Rattle.paw_author.specs.Tokens.{is_same, is_quoted, without_quotes, starts_with_byte}

-- A file: its name, and those of its lines that are taken.
pub record ReadFile : Type 0 where
  pub name : Name
  pub lines : LinesInParts

-- Files that were read.
abbrev pub ReadFiles : Type 0
ReadFiles = List ReadFile

-- ---- lines that include a file ----

-- Whether a line includes a file.
abbrev pub is_include : Fragments → Bool
is_include line = is_same (leading_word line) (codes "/INCLUDE")

-- The path that a line has, which may stand in quotes.
abbrev pub written_path : Fragments → Name
written_path line = if is_quoted (token_at 1 line) then without_quotes (token_at 1 line) else token_at 1 line

-- The folder of a path: all up to its last `/`, and with it.
abbrev pub path_folder : Name → Name
path_folder path = take (length path - suffix_len (λ b. not (b == 47)) path) path

-- The path that a line of a file names: from the folder of that file on, or from the top where it begins with `/`.
abbrev pub included_path : Name → Fragments → Name
included_path name line =
    if starts_with_byte 47 (written_path line) then written_path line else path_folder name ++ written_path line

-- The index of the file with this path.
abbrev pub index_of_path : ReadFiles → Name → Option ℕ
index_of_path files path = position (λ file. bytes_eq file.name path) files

-- The path of a line that includes a file. A fault where there is none, or more than one.
abbrev pub path_of : Name → Fragments → Result Name Mistake
path_of name line =
    if token_count line == 2 then Ok (included_path name line) else Err (wrong_line (line_origin line) Section)

-- The place of the path in a line.
abbrev pub path_origin : Fragments → Origin
path_origin line = origin_of (slice_get (line_tokens line) 1)

-- The index of the file that a line of this file includes.
abbrev pub file_of : ReadFiles → Name → Fragments → Result ℕ Mistake
file_of files name line = path_of name line >>= λ path. ok_or (index_of_path files path) (lost_file (path_origin line))

-- ---- the row ----

-- The files that stand in a row so far, each by its index.
abbrev pub FileOrder : Type 0
FileOrder = List ℕ

-- The row with the file that a line includes, by what puts a file before a row. Other lines include none.
abbrev pub line_before : (ℕ → FileOrder → Result FileOrder Mistake) → ReadFiles → Name → Fragments → FileOrder → Result FileOrder Mistake
line_before before files name line row =
    if is_include line then (file_of files name line >>= λ file. before file row) else Ok row

-- The row with the files that these lines include: the last line comes first, so the row is made from after.
unfoldable pub lines_before : (ℕ → FileOrder → Result FileOrder Mistake) → ReadFiles → Name → LinesInParts → FileOrder → Result FileOrder Mistake
lines_before before files name [] row = Ok row
lines_before before files name (line ∷ lines) row =
    lines_before before files name lines row >>= λ more. line_before before files name line more

-- The name of a file, if there is one.
abbrev pub name_or_none : Option ReadFile → Name
name_or_none None = []
name_or_none (Some file) = file.name

-- The lines of a file, if there is one.
abbrev pub lines_or_none : Option ReadFile → LinesInParts
lines_or_none None = []
lines_or_none (Some file) = file.lines

-- The fault of a file that leads to itself.
abbrev pub leads_to_itself : ℕ → Mistake
leads_to_itself file = lost_file (record { file = file; line = 0; column = 0 })

-- The row with a file before it, and after that file all that it includes. A file that stands in the row already stays
-- there: so of a file that is included more than once the last place counts, and each file stands before all that it
-- includes. At most n files lead from one to the next; where there would be more, one leads to itself.
unfoldable pub file_before : ℕ → ReadFiles → ℕ → FileOrder → Result FileOrder Mistake
file_before zero files file row = Err (leads_to_itself file)
file_before (suc n) files file row =
    if list_any (λ other. other == file) row then Ok row
    else lines_before (file_before n files) files (name_or_none (slice_get files file)) (lines_or_none (slice_get files file)) row
    >>= λ more. Ok (file ∷ more)

-- The row of files: the first of them, and all that it leads to.
abbrev pub order_of_files : ReadFiles → Result FileOrder Mistake
order_of_files files = file_before (length files) files 0 []
