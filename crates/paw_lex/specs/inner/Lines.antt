-- The lines of a source: definitions for contracts and proofs, besides those of specs/Lines.antt.
use Rattle.std.specs.Prelude.{◌≡◌, ℕ, ◌≤◌, ◌⊎◌, [], ◌∷◌, length, slice_range}
use Rattle.paw_base.specs.Bytes.{Bytes, Lines}
use Rattle.paw_lex.specs.declared.lines.Line.{Line}

-- Where a walk over the lines of a source stands: how many lines it has given, the offset where the next one begins,
-- and the lines that are left.
pub record Walk : Type 0 where
  pub source : Bytes
  pub given : ℕ
  pub at : ℕ
  pub left : Lines

-- The bytes of a line of the source.
abbrev pub line_bytes : Bytes → Line → Bytes
line_bytes source line = slice_range source line.from line.to

-- The span of a line lies in the source.
abbrev pub LiesIn : Bytes → Line → Type 0
LiesIn source line = (line.from ≤ line.to) × (line.to ≤ length source)

-- These bytes are LF, or CR and LF.
abbrev pub IsLineEnd : Bytes → Type 0
IsLineEnd bytes = (bytes ≡ 10 ∷ []) ⊎ (bytes ≡ 13 ∷ 10 ∷ [])
