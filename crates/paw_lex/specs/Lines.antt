-- The lines of a source.
use Rattle.std.specs.Prelude.{◌==◌}
use Rattle.std.specs.List.{before_first}
use Rattle.std.specs.Str.Lines.{lines}
use Rattle.paw_base.specs.Bytes.{Bytes, Lines}

-- The lines of a source, which ends before its first byte 0x1A, if there is one. An LF ends a line, and a CR right
-- before it belongs to the line end. A last line without LF is a line too; after a last LF there is none.
unfoldable pub lines_of : Bytes → Lines
lines_of source = lines (before_first (λ b. b == 0x1A) source)
