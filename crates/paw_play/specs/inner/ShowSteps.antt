-- How a walk shows the pieces of a game: words that contracts and proofs use.
use Rattle.std.specs.Prelude.{◌≡◌, ℕ, ◌-◌, List, [], ◌++◌, length, take, flat_map}
use Rattle.paw_base.specs.Bytes.{Text, Texts}
use Rattle.paw_base.specs.inner.Steps.{KeptSteps}
use Rattle.paw_base.specs.declared.limits.TheConstants.{STEP_LIMIT}
use Rattle.paw_reading.specs.Run.{Run, StepRow}
use Rattle.paw_reading.specs.Turn.{Ending}
use Rattle.paw_turn.specs.inner.Player.{PlayerView}
use Rattle.paw_play.specs.Traces.{step_line, more_line, traced_pieces, traced_run, traced_ending}
use Rattle.paw_play.specs.Walk.{EndingOf}

-- Whether each piece is shown as it is, or after the text of its steps.
pub data ShowSteps : Type 0 where
  Plain : ShowSteps
  Stepped : ShowSteps

-- The text of the steps that are kept.
abbrev pub kept_text : KeptSteps → Text
kept_text kept = flat_map step_line (take STEP_LIMIT kept.rows) ++ more_line (kept.count - STEP_LIMIT)

-- What is shown before a piece, by what is kept of its steps.
abbrev pub preface : ShowSteps → KeptSteps → Text
preface Plain kept = []
preface Stepped kept = kept_text kept

-- Where pieces are shown after their steps, as many steps of each are kept as have a line.
abbrev pub NotesShown : ShowSteps → ℕ → Type 0
NotesShown Plain most = Unit {0}
NotesShown Stepped most = most ≡ STEP_LIMIT

-- What is shown for a player's last piece.
abbrev pub seat_text : {F : Type 0} → ShowSteps → PlayerView F → Text
seat_text showing p = preface showing p.machine.steps ++ p.piece

-- Closed pieces with their steps, as they are shown.
abbrev pub shown_pieces : ShowSteps → Texts → List (List StepRow) → Texts
shown_pieces Plain pieces traces = pieces
shown_pieces Stepped pieces traces = traced_pieces pieces traces

-- Where pieces are shown after their steps, each has its own.
abbrev pub HaveSteps : ShowSteps → Texts → List (List StepRow) → Type 0
HaveSteps Plain pieces traces = Unit {0}
HaveSteps Stepped pieces traces = length traces ≡ length pieces

-- The run, with its pieces shown this way.
abbrev pub shown_run : ShowSteps → Run → Run
shown_run Plain r = r
shown_run Stepped r = traced_run r

-- The ending, with its pieces shown this way.
abbrev pub shown_ending : ShowSteps → Ending → Ending
shown_ending Plain e = e
shown_ending Stepped e = traced_ending e

-- The reading, with its pieces shown this way.
abbrev pub with_shown_steps : ShowSteps → EndingOf → EndingOf
with_shown_steps showing whole lines = shown_ending showing (whole lines)
