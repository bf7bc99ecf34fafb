-- The lines of a file.
use Rattle.std.specs.Prelude.{ℕ, suc, ◌==◌, if◌then◌else◌, [], ◌∷◌}
use Rattle.std.specs.List.{before_first, onto_first}
use Rattle.paw_base.specs.Bytes.{Bytes, Lines}
use Rattle.paw_author.specs.Fragments.{LinesInParts}
use Rattle.paw_author.specs.Parts.{line_parts}

-- The lines of a text with their line ends: a line ends with LF, and the last one may lack it.
unfoldable pub whole_lines : Bytes → Lines
whole_lines [] = []
whole_lines (b ∷ bs) = if b == 10 then (b ∷ []) ∷ whole_lines bs else onto_first b (whole_lines bs)

-- Lines of a file in their parts, where n lines stand above them.
unfoldable pub with_numbers : ℕ → ℕ → Lines → LinesInParts
with_numbers file n [] = []
with_numbers file n (line ∷ lines) = line_parts file (suc n) line ∷ with_numbers file (suc n) lines

-- The lines of a file, which ends before its first byte 0x1A, if it has one.
abbrev pub file_lines : ℕ → Bytes → LinesInParts
file_lines file bytes = with_numbers file 0 (whole_lines (before_first (λ b. b == 0x1A) bytes))
