-- The turn, and the reading of a list of lines: words that contracts between crates and proofs use besides those of
-- specs/Turn.antt.
use Rattle.std.specs.Prelude.{◌≡◌, ◌≢◌, ℕ, ◌<◌, List, [], ◌++◌, length}
use Rattle.paw_base.specs.Bytes.{Lines, Seed}
use Rattle.paw_effects.specs.Story.{Story}
use Rattle.paw_effects.specs.declared.act.Prompt.{Prompt}
use Rattle.paw_effects.specs.declared.act.Prompt.TheVariants as prompt
use Rattle.paw_reading.specs.declared.frames.Frame.{Frame}
use Rattle.paw_reading.specs.Run.{Run}
use Rattle.paw_reading.specs.inner.GoingOn.{with_lines}
use Rattle.paw_reading.specs.Turn.{TurnPhase, Ending, WaitsAt, Halted, Unended, turn, turns_from, reading, goes_on}
use Rattle.paw_reading.specs.Turn.{going_on_from}

-- ---- going on ----

-- A reading that waits goes on with these lines; any other stays as it ended, with the lines untaken.
abbrev pub ending_followed : Story → Lines → Ending → Ending
ending_followed g lines (WaitsAt p path r) = going_on_from g p path (with_lines lines r)
ending_followed g lines (Halted halt r) = Halted halt (with_lines lines r)
ending_followed g lines Unended = Unended

-- ---- the laws ----

-- A reading ends: the phases that are granted are enough.
abbrev pub TurnsEnd : Type 0
TurnsEnd = (g : Story) (s : TurnPhase) (r : Run) → turns_from g s r ≢ Unended

-- More phases, or fewer that are enough, change nothing.
abbrev pub EndsOnce : Type 0
EndsOnce = (g : Story) (n : ℕ) (s : TurnPhase) (r : Run) →
    turn g n s r ≢ Unended → turn g n s r ≡ turns_from g s r

-- Going on from a prompt ends: the phases that are granted are enough.
abbrev pub GoingOnEnds : Type 0
GoingOnEnds = (g : Story) (p : Prompt) (path : List Frame) (r : Run) → going_on_from g p path r ≢ Unended

-- More phases, or fewer that are enough, change nothing in going on.
abbrev pub GoesOnOnce : Type 0
GoesOnOnce = (g : Story) (n : ℕ) (p : Prompt) (path : List Frame) (r : Run) →
    goes_on g n p path r ≢ Unended → goes_on g n p path r ≡ going_on_from g p path r

-- Inside tables a run waits along the frames of those that are open, and at the main prompt none is.
abbrev pub MayWaitAlong : Prompt → List Frame → Type 0
MayWaitAlong prompt.Main path = path ≡ []
MayWaitAlong prompt.Quit path = 0 < length path
MayWaitAlong prompt.Again path = 0 < length path
MayWaitAlong prompt.Key path = 0 < length path
MayWaitAlong prompt.Over path = ⊥

-- With no line going on is the wait itself.
abbrev pub WaitsOn : Type 0
WaitsOn = (g : Story) (p : Prompt) (path : List Frame) (r : Run) → MayWaitAlong p path → r.events ≡ [] →
    going_on_from g p path r ≡ WaitsAt p path r

-- Reading more lines is reading some, and going on with the others.
abbrev pub GoingOnIsReading : Type 0
GoingOnIsReading = (g : Story) (seed : Seed) (es fs : Lines) →
    reading g seed (es ++ fs) ≡ ending_followed g fs (reading g seed es)
