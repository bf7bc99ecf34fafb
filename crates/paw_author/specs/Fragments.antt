-- Bytes that come from somewhere, and lines that are made of such bytes.
use Rattle.std.specs.Prelude.{List}
use Rattle.paw_base.specs.Bytes.{Bytes}
use Rattle.paw_author.specs.declared.fragment.Origin.{Origin}

-- Some bytes, and where they are written or, where they were made, what they stand for.
pub record WithOrigin : Type 0 where
  pub origin : Origin
  pub bytes : Bytes

-- The parts of a line, which follow one another. Their bytes are those of the line, with its line end.
abbrev pub Fragments : Type 0
Fragments = List WithOrigin

-- Lines, each in its parts.
abbrev pub LinesInParts : Type 0
LinesInParts = List Fragments
