-- Faults of a source that an author writes.
use Rattle.paw_base.specs.declared.fault.SourceKind.{SourceKind}
use Rattle.paw_author.specs.declared.fragment.Origin.{Origin}
use Rattle.paw_author.specs.declared.mistake.MistakeKind.TheVariants.{File, Line}
use Rattle.paw_author.specs.declared.mistake.Mistake.{Mistake}

-- A fault of a line.
abbrev pub wrong_line : Origin → SourceKind → Mistake
wrong_line origin kind = record { origin = origin; kind = Line kind }

-- The fault of a line that names a file which isn't there.
abbrev pub lost_file : Origin → Mistake
lost_file origin = record { origin = origin; kind = File }
