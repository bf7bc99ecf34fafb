-- What a bound promises of every play.
use Rattle.std.specs.Prelude.{◌≡◌, ℕ, ◌≤◌, false, None, length, All}
use Rattle.paw_base.specs.Bytes.{Lines, Seed}
use Rattle.paw_base.specs.declared.tables.TheConstants.{FRAME_TABLE}
use Rattle.paw_effects.specs.Story.{Story}
use Rattle.paw_reading.specs.Bounds.{IsLine, ValidStory}
use Rattle.paw_reading.specs.Run.{Run}
use Rattle.paw_reading.specs.declared.halt.Halt.TheVariants as halt
use Rattle.paw_reading.specs.Reading.{table_called, read_at_level, table_read}
use Rattle.paw_reading.specs.Turn.{Ending, WaitsAt, Halted, reading}
use Rattle.paw_check.specs.declared.verdict.Verdict.{Verdict}
use Rattle.paw_check.specs.declared.verdict.Verdict.TheVariants as verdict
use Rattle.paw_check.specs.Verdicts.{bounds}

-- Each closed piece stays within these bounds on the condacts that are read for it, and on its bytes.
pub record PiecesWithin (condacts text : ℕ) (r : Run) : Type 0 where
  pub pieces : All (λ piece. length piece ≤ text) r.pieces
  pub traces : All (λ trace. length trace ≤ condacts) r.traces

-- The reading waits for a line, or the game is over, and all its pieces are within these bounds. So no piece ran out of
-- a budget, and no call was too deep.
abbrev pub EndsWithin : ℕ → ℕ → Ending → Type 0
EndsWithin condacts text (WaitsAt p path r) = PiecesWithin condacts text r
EndsWithin condacts text (Halted halt.Over r) = PiecesWithin condacts text r
EndsWithin condacts text _ = ⊥

-- A turn's tables read the same with this number of levels of calls as with all ten. So none is read at a deeper one.
abbrev pub CallsWithin : ℕ → Story → Type 0
CallsWithin levels g = (t : ℕ) (r : Run) → t ≤ FRAME_TABLE → r.turning ≡ None →
    read_at_level g (table_called g levels 0) 0 t 0 0 false r ≡ table_read g t r

-- What a bound promises of a story, for all seeds and lines.
pub record StaysWithin (levels condacts text : ℕ) (g : Story) : Type 0 where
  pub readings : (seed : Seed) (es : Lines) → All IsLine es → EndsWithin condacts text (reading g seed es)
  pub calls : CallsWithin levels g

-- What a verdict promises of a story: nothing where no bound is known.
abbrev pub Promises : Verdict → Story → Type 0
Promises (verdict.Bound levels condacts text) g = StaysWithin levels condacts text g
Promises (verdict.Unknown why table entry) g = Unit {0}

-- The verdict on a game holds for each valid story of it, whatever routines its EXTERN calls.
abbrev pub BoundsHold : Type 0
BoundsHold = (g : Story) → ValidStory g → Promises (bounds g.game) g
