-- What a machine's answers mean in the reading.
use Rattle.std.specs.Prelude.{◌≡◌, ◌⊎◌, ℕ, Bool, false, List, [], ◌∷◌, ◌++◌, length, reverse}
use Rattle.std.specs.Fn.{Shared}
use Rattle.paw_base.specs.Bytes.{Line, Lines, RoutineAnswers}
use Rattle.paw_game.specs.Game.{GameLists}
use Rattle.paw_game.specs.Valid.{Valid}
use Rattle.paw_routines.specs.declared.routines.Routines.{Routines}
use Rattle.paw_routines.specs.Routines.{AreAnswersOf}
use Rattle.paw_effects.specs.Story.{Story, story_of}
use Rattle.paw_effects.specs.declared.act.Prompt.TheVariants as prompt
use Rattle.paw_reading.specs.declared.frames.Frame.{Frame}
use Rattle.paw_reading.specs.Run.{Run, StepRow, piece_closed, is_ignored, with_line_heard, reply, is_yes}
use Rattle.paw_reading.specs.declared.halt.Halt.{Halt}
use Rattle.paw_reading.specs.Reading.{Redescribes, Out, Left, Stopped, closes_piece, halts, rest_of_table}
use Rattle.paw_reading.specs.GoingOn.{on_path}
use Rattle.paw_reading.specs.inner.GoingOn.{along}
use Rattle.paw_process.specs.inner.OpenTables.{OpenTables}
use Rattle.paw_process.specs.inner.OpenTables.{HasRead, IsWaiting, IsClosed}
use Rattle.paw_process.specs.declared.surroundings.Surroundings.{Surroundings}
use Rattle.paw_process.specs.declared.Turned.{Turned}
use Rattle.paw_process.specs.declared.Turned.TheVariants as turned

-- ---- stories ----

-- This holds of the story that the game is with any answers that stand for the routines.
abbrev pub InStories :
    {F : Type 0} → Shared F (ℕ × (ℕ × Unit {0})) ℕ → Routines F → GameLists → (Story → Type 0) → Type 0
InStories calls routines g P = (X : RoutineAnswers) → AreAnswersOf calls routines X → P (story_of g X)

-- ---- what is held ----

-- What stands between two stops: the surroundings that reading changes, and the machine.
pub record Held : Type 0 where
  pub surroundings : Surroundings
  pub machine : OpenTables

-- This situation and this machine.
abbrev pub having : Surroundings → OpenTables → Held
having s m = record { surroundings = s; machine = m }

-- A run shows what stands, with the condacts that the open piece has read.
pub record ShowsHeld (r : Run) (h : Held) : Type 0 where
  pub world : r.world ≡ h.surroundings.world
  pub pending : r.pending ≡ h.surroundings.pending.bytes
  pub earlier : r.earlier ≡ h.surroundings.pending.earlier
  pub turning : r.turning ≡ h.machine.turning
  pub current : r.current ≡ h.surroundings.piece
  pub read : HasRead r.read h.machine

-- The run with what stands now.
abbrev pub run_held : Held → Run → Run
run_held h r = record r {
  world = h.surroundings.world;
  pending = h.surroundings.pending.bytes;
  earlier = h.surroundings.pending.earlier;
  turning = h.machine.turning;
  current = h.surroundings.piece;
}

-- The run with these condacts read as well.
abbrev pub with_steps : List StepRow → Run → Run
with_steps steps r = record r { read = r.read ++ steps }

-- The run with these lines to come.
abbrev pub to_come : Lines → Run → Run
to_come lines r = record r { events = lines }

-- ---- going on ----

-- Goes on in the open tables, the innermost first.
abbrev pub going_in : Story → List Frame → Run → Out
going_in g [] r = Left false r
going_in g (f ∷ fs) r = along g fs (rest_of_table g (length fs) f.table f.entry f.at f.acted r)

-- The closed pieces, their steps, and the lines to come are the same.
pub record SamePast (old new : Run) : Type 0 where
  pub pieces : new.pieces ≡ old.pieces
  pub traces : new.traces ≡ old.traces
  pub events : new.events ≡ old.events

-- The reading ends for good this way before the piece is closed, in a run with the same past; world and piece may then
-- be anything.
abbrev pub TableHalts : Halt → Run → Out → Type 0
TableHalts halt r x = (closes_piece halt ≡ false) × (s : Run) × (x ≡ halts halt s) × SamePast r s

-- How a reading ends or goes on after such a stop of the machine, with these frames and this run: the outermost table
-- was left; the location is described again; the piece is closed, and the run goes on at the prompt along the frames;
-- or play has ended for good.
abbrev pub ComesTo : Story → Turned → List Frame → Run → Out → Type 0
ComesTo g (turned.Left acted) fs r x = x ≡ Left acted r
ComesTo g turned.Redescribe fs r x = x ≡ Stopped Redescribes r
ComesTo g (turned.Waits p) fs r x = x ≡ on_path g p 0 (reverse fs) (piece_closed r)
ComesTo g (turned.Halted halt) fs r x = TableHalts halt r x

-- Running on from what stood to what stands now: for every run that showed what stood there are further condacts that
-- were read, of which the machine keeps the steps, so that, whatever lines come, going on ends in the way that is said.
abbrev pub RunsTo : Story → Held → Turned → Held → Type 0
RunsTo g old t new =
    (r : Run) → ShowsHeld r old → (steps : List StepRow) × HasRead (r.read ++ steps) new.machine
    × ((lines : Lines) →
    ComesTo g t new.machine.frames (to_come lines (run_held new (with_steps steps r)))
    (going_in g old.machine.frames (to_come lines r)))

-- After a stop the machine waits, or nothing is open.
abbrev pub IsStopped : Turned → OpenTables → Type 0
IsStopped (turned.Waits p) m = IsWaiting p m
IsStopped _ m = IsClosed m

-- ---- answers ----

-- The machine waits for the answer to QUIT, or for a key.
abbrev pub AwaitsAnswer : OpenTables → Type 0
AwaitsAnswer m = IsWaiting prompt.Quit m ⊎ IsWaiting prompt.Key m

-- In each valid game, going on along these frames from QUIT's question with a line that gives this answer is going on
-- in the new frames once the line is heard.
abbrev pub AnswersQuit : Bool → List Frame → List Frame → Type 0
AnswersQuit agrees old new =
    (g : Story) (line : Line) (lines : Lines) (r : Run) →
    Valid g.game → is_ignored r.world line ≡ false → is_yes (reply line) ≡ agrees →
    on_path g prompt.Quit 0 (reverse old) (to_come (line ∷ lines) r)
    ≡ going_in g new (with_line_heard line (to_come lines r))

-- The same holds of going on from a key, with any line.
abbrev pub AnswersKey : List Frame → List Frame → Type 0
AnswersKey old new =
    (g : Story) (line : Line) (lines : Lines) (r : Run) →
    is_ignored r.world line ≡ false →
    on_path g prompt.Key 0 (reverse old) (to_come (line ∷ lines) r)
    ≡ going_in g new (with_line_heard line (to_come lines r))
