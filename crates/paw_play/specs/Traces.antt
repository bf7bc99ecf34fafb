-- What a trace shows: before each piece the steps of that piece.
use Rattle.std.specs.Prelude.{ℕ, zero, suc, ◌-◌, Bool, List, [], ◌∷◌, ◌++◌, length, take, codes, decimal}
use Rattle.std.specs.Prelude.{flat_map, if◌then◌else◌}
use Rattle.paw_base.specs.Bytes.{Text, Texts}
use Rattle.paw_base.specs.Condacts.{name_of}
use Rattle.paw_base.specs.declared.limits.TheConstants.{STEP_LIMIT}
use Rattle.paw_reading.specs.Run.{Run, StepRow}
use Rattle.paw_reading.specs.Turn.{Ending, WaitsAt, Halted, Unended}

-- ---- the text of steps ----

-- The address of a condact: its table, its entry there, and its number in the entry, each counted from 0.
abbrev pub step_address : ℕ → ℕ → ℕ → Text
step_address table entry at = decimal table ++ (codes "." ++ (decimal entry ++ (codes "." ++ decimal at)))

-- How the line of a step ends: with yes, or with no for a condition that failed.
abbrev pub answer_text : Bool → Text
answer_text passed = if passed then codes " yes\n" else codes " no\n"

-- The line of a step, such as 1.0.0 LISTOBJ yes.
abbrev pub step_line : StepRow → Text
step_line step =
    step_address step.table step.entry step.at ++ (codes " " ++ (name_of step.code ++ answer_text step.yes))

-- The line with the number of steps that aren't shown; none where all are.
abbrev pub more_line : ℕ → Text
more_line zero = []
more_line (suc n) = codes "[" ++ (decimal (suc n) ++ codes " more]\n")

-- A line for each of the first 1,000 steps of a piece, and then the number of the others.
abbrev pub steps_text : List StepRow → Text
steps_text steps = flat_map step_line (take STEP_LIMIT steps) ++ more_line (length steps - STEP_LIMIT)

-- ---- the reading that a trace shows ----

-- The closed pieces, each after the text of its steps; those for which no steps are left stay as they are.
abbrev pub traced_pieces : Texts → List (List StepRow) → Texts
traced_pieces (piece ∷ pieces) (steps ∷ traces) = (steps_text steps ++ piece) ∷ traced_pieces pieces traces
traced_pieces pieces traces = pieces

-- The run with each of its closed pieces after the text of its steps.
abbrev pub traced_run : Run → Run
traced_run r = record r { pieces = traced_pieces r.pieces r.traces }

-- The same ending, with the text of steps in its run.
abbrev pub traced_ending : Ending → Ending
traced_ending (WaitsAt p path r) = WaitsAt p path (traced_run r)
traced_ending (Halted halt r) = Halted halt (traced_run r)
traced_ending Unended = Unended
