-- Pieces and lines.
use Rattle.std.specs.Prelude.{◌≡◌, ℕ, suc, ◌+◌, [], length}
use Rattle.paw_base.specs.Bytes.{Lines, Seed}
use Rattle.paw_effects.specs.Story.{Story}
use Rattle.paw_reading.specs.Run.{Run}
use Rattle.paw_reading.specs.declared.halt.Halt.TheVariants as halt
use Rattle.paw_reading.specs.Turn.{Ending, WaitsAt, Halted, Unended, reading}

-- The number of closed pieces and of lines that are left.
abbrev pub count : Run → ℕ
count r = length r.pieces + length r.events

-- Of n lines, a reading that waits has taken each, and closed one piece before them and one for each. One that is over
-- has done so for the lines that it took. One that ran out, or called too deep, hasn't closed its last piece.
abbrev pub Counted : ℕ → Ending → Type 0
Counted n (WaitsAt p path r) = (r.events ≡ []) × (count r ≡ suc n)
Counted n (Halted halt.Over r) = count r ≡ suc n
Counted n (Halted _ r) = count r ≡ n
Counted n Unended = Unit {0}

-- A reading has one piece for each line, and one before them.
abbrev pub PiecesOfLines : Type 0
PiecesOfLines = (g : Story) (seed : Seed) (es : Lines) → Counted (length es) (reading g seed es)
