-- Reading with more lines.
use Rattle.std.specs.Prelude.{◌≡◌, ℕ, Bool, List, [], ◌++◌, None}
use Rattle.paw_base.specs.Bytes.{Lines, Seed, Texts}
use Rattle.paw_effects.specs.Story.{Story}
use Rattle.paw_effects.specs.declared.act.Prompt.{Prompt}
use Rattle.paw_reading.specs.declared.frames.Frame.{Frame}
use Rattle.paw_reading.specs.Run.{Run, StepRow}
use Rattle.paw_reading.specs.Reading.{rest_of_table}
use Rattle.paw_reading.specs.GoingOn.{on_path}
use Rattle.paw_reading.specs.inner.GoingOn.{with_lines, out_followed}
use Rattle.paw_reading.specs.Turn.{TurnPhase, Ending, WaitsAt, Halted, Unended, turns_from, reading, text_of}
use Rattle.paw_reading.specs.Turn.{going_on_from}
use Rattle.paw_reading.specs.inner.Turn.{ending_followed}

-- Reading on with more lines is reading on, and then: a reading that waits has closed the same pieces, and goes on with
-- the lines along its path; any other ends in the same way, and leaves the lines.
abbrev pub TablesGoOn : Type 0
TablesGoOn = (g : Story) (lines : Lines) (lv t e k : ℕ) (acted : Bool) (r : Run) →
    rest_of_table g lv t e k acted (with_lines lines r) ≡ out_followed g lines lv (rest_of_table g lv t e k acted r)

-- The same holds of going on along a path.
abbrev pub PathsGoOn : Type 0
PathsGoOn = (g : Story) (lines : Lines) (p : Prompt) (lv : ℕ) (path : List Frame) (r : Run) →
    on_path g p lv path (with_lines lines r) ≡ out_followed g lines lv (on_path g p lv path r)

-- The same holds of the turns from a phase on, where no loop is open.
abbrev pub TurnsGoOn : Type 0
TurnsGoOn = (g : Story) (lines : Lines) (s : TurnPhase) (r : Run) → r.turning ≡ None →
    turns_from g s (with_lines lines r) ≡ ending_followed g lines (turns_from g s r)

-- ---- what was closed before ----

-- The run without its closed pieces.
abbrev pub without_past : Run → Run
without_past r = record r { pieces = []; traces = [] }

-- The run with these closed pieces, and the steps of each, before its own.
abbrev pub with_past : Texts → List (List StepRow) → Run → Run
with_past pieces traces r = record r { pieces = pieces ++ r.pieces; traces = traces ++ r.traces }

-- Goes on from a prompt with these lines, and without the closed pieces.
abbrev pub goes_on_with : Story → Prompt → List Frame → Lines → Run → Ending
goes_on_with g p path lines r = going_on_from g p path (with_lines lines (without_past r))

-- A reading that ends this way, with these closed pieces before its own.
abbrev pub ending_with_past : Texts → List (List StepRow) → Ending → Ending
ending_with_past pieces traces (WaitsAt p path r) = WaitsAt p path (with_past pieces traces r)
ending_with_past pieces traces (Halted halt r) = Halted halt (with_past pieces traces r)
ending_with_past pieces traces Unended = Unended

-- What was closed before changes nothing, and stays in front.
abbrev pub PastStays : Type 0
PastStays =
    (g : Story) (pieces : Texts) (traces : List (List StepRow)) (p : Prompt) (path : List Frame) (r : Run) →
    going_on_from g p path (with_past pieces traces r) ≡ ending_with_past pieces traces (going_on_from g p path r)

-- Where the reading of some lines waits, the reading of more has its pieces, and then those of going on from there; it
-- ends as going on does.
abbrev pub LongerReading : Type 0
LongerReading = (g : Story) (seed : Seed) (es fs : Lines) (p : Prompt) (path : List Frame) (r : Run) →
    reading g seed es ≡ WaitsAt p path r →
    reading g seed (es ++ fs) ≡ ending_with_past r.pieces r.traces (goes_on_with g p path fs r)

-- The text of the longer reading is that of both, one after the other.
abbrev pub LongerText : Type 0
LongerText = (g : Story) (seed : Seed) (es fs : Lines) (p : Prompt) (path : List Frame) (r : Run) →
    reading g seed es ≡ WaitsAt p path r →
    text_of (reading g seed (es ++ fs)) ≡ text_of (reading g seed es) ++ text_of (goes_on_with g p path fs r)
