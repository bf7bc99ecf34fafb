-- What holds of plain sources.
use Rattle.std.specs.Prelude.{◌≡◌, ◌≤◌, ◌==◌, ℕ, true, ◌∷◌, length, Ok}
use Rattle.std.specs.List.{before_first, flat_map}
use Rattle.paw_base.specs.Bytes.{Bytes, Names}
use Rattle.paw_base.specs.declared.limits.TheConstants.{SOURCE_LIMIT}
use Rattle.paw_author.specs.Authored.{plain_lines}
use Rattle.paw_author.specs.FileLines.{file_lines}
use Rattle.paw_author.specs.Files.{NamedFile, NamedFiles}
use Rattle.paw_author.specs.Fragments.{Fragments, LinesInParts}
use Rattle.paw_author.specs.PlainSources.{is_plain_source}

-- The bytes of a line.
abbrev pub bytes_of_parts : Fragments → Bytes
bytes_of_parts line = flat_map (λ part. part.bytes) line

-- The bytes of lines.
abbrev pub all_bytes : LinesInParts → Bytes
all_bytes lines = flat_map (λ line. bytes_of_parts line) lines

-- A plain source comes out as it is, whatever switches are on and whatever other files there are.
abbrev pub PlainStays : Type 0
PlainStays = (switches : Names) (file : NamedFile) (files : NamedFiles) → length file.bytes ≤ SOURCE_LIMIT
    → is_plain_source (file_lines 0 file.bytes) ≡ true
    → plain_lines switches (file ∷ files) ≡ Ok (file_lines 0 file.bytes)

-- The lines of a file are its bytes, up to its end.
abbrev pub LinesAreTheFile : Type 0
LinesAreTheFile = (number : ℕ) (bytes : Bytes)
    → all_bytes (file_lines number bytes) ≡ before_first (λ b. b == 0x1A) bytes
