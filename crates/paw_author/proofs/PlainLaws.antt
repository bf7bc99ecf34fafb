-- A plain source comes out as it is, and the lines of a file are its bytes.
use Rattle.std.proofs.Common.{◌≡◌, ◌≤◌, ℕ, zero, suc, ◌&&◌, Bool, true, false, eqb, cond, if◌then◌else◌, [], ◌∷◌, ◌++◌, length, take, drop}
use Rattle.std.proofs.Common.{Result, Ok, nat_le, refl, ap, ◌∙◌, le-leb, arith}
use Rattle.std.specs.List.{before_first, flat_map, onto_first}
use Rattle.std.proofs.lemmas.List.{take-append-drop}
use Rattle.paw_base.specs.Bytes.{Bytes, Line, Lines}
use Rattle.paw_base.specs.declared.limits.TheConstants.{SOURCE_LIMIT}
use Rattle.paw_author.specs.declared.fragment.Origin.{Origin}
use Rattle.paw_author.specs.declared.mistake.Mistake.{Mistake}
use Rattle.paw_author.specs.Authored.{joined_lines}
use Rattle.paw_author.specs.FileLines.{whole_lines, with_numbers, file_lines}
use Rattle.paw_author.specs.Fragments.{LinesInParts}
use Rattle.paw_author.specs.Laws.{bytes_of_parts, all_bytes, PlainStays, LinesAreTheFile}
use Rattle.paw_author.specs.Parts.{part_len, further, parts_from}
use Rattle.paw_author.specs.PlainSources.{is_plain_source}
use Rattle.paw_author.proofs.CutLines.{rest_is_shorter}

-- ---- plain sources ----

from_tests : (a b : Bool) (x y : Result LinesInParts Mistake) → a ≡ true → b ≡ true → (if a && b then x else y) ≡ x
from_tests a b x y e f = rw (e, f) refl

pub plain_stays : PlainStays
plain_stays switches file files short h =
    from_tests (nat_le (length file.bytes) SOURCE_LIMIT) (is_plain_source (file_lines 0 file.bytes)) (Ok (file_lines 0 file.bytes))
    (joined_lines switches (file ∷ files)) (le-leb (length file.bytes) SOURCE_LIMIT short) h

-- ---- bytes ----

-- The parts of a line are its bytes.
parts_bytes : (n : ℕ) (origin : Origin) (s : Bytes) → length s ≤ n → bytes_of_parts (parts_from n origin s) ≡ s
unfolding parts_from
parts_bytes zero origin [] h = refl
parts_bytes zero origin (b ∷ bs) h = absurd (omega arith)
parts_bytes (suc n) origin [] h = refl
parts_bytes (suc n) origin (b ∷ bs) h =
    let len : ℕ = part_len (b ∷ bs) in
    let short : length (drop len (b ∷ bs)) ≤ length bs = rest_is_shorter b bs in
    ap (λ (more : Bytes). take len (b ∷ bs) ++ more) (parts_bytes n (further len origin) (drop len (b ∷ bs)) (omega arith))
    ∙ take-append-drop len (b ∷ bs)

abbrev joined_bytes : Lines → Bytes
joined_bytes lines = flat_map (λ (line : Line). line) lines

numbered_bytes : (file n : ℕ) (lines : Lines) → all_bytes (with_numbers file n lines) ≡ joined_bytes lines
unfolding with_numbers
numbered_bytes file n [] = refl
numbered_bytes file n (line ∷ lines) =
    ap (λ (first : Bytes). first ++ all_bytes (with_numbers file (suc n) lines))
    (parts_bytes (length line) (record { file = file; line = suc n; column = 1 }) line (omega arith))
    ∙ ap (λ (more : Bytes). line ++ more) (numbered_bytes file (suc n) lines)

onto_bytes : (b : ℕ) (lines : Lines) → joined_bytes (onto_first b lines) ≡ b ∷ joined_bytes lines
onto_bytes b [] = refl
onto_bytes b (line ∷ lines) = refl

whole_bytes : (s : Bytes) → joined_bytes (whole_lines s) ≡ s
unfolding whole_lines
whole_bytes [] = refl
whole_bytes (b ∷ bs) =
    elim (eqb b 10) as (λ v. joined_bytes (cond v ((b ∷ []) ∷ whole_lines bs) (onto_first b (whole_lines bs))) ≡ b ∷ bs) [
      | true ↦ ap (λ (more : Bytes). b ∷ more) (whole_bytes bs)
      | false ↦ onto_bytes b (whole_lines bs) ∙ ap (λ (more : Bytes). b ∷ more) (whole_bytes bs)
    ]

pub lines_are_the_file : LinesAreTheFile
lines_are_the_file number bytes =
    numbered_bytes number 0 (whole_lines (before_first (λ b. eqb b 0x1A) bytes)) ∙ whole_bytes (before_first (λ b. eqb b 0x1A) bytes)
