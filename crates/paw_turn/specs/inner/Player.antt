-- What a player's answers mean in the reading.
use Rattle.std.specs.Prelude.{◌≡◌, List, [], ◌∷◌, ◌++◌, reverse}
use Rattle.paw_base.specs.Bytes.{Lines, Seed, Text, Texts}
use Rattle.std.specs.Prelude.{◌≡◌, Bool, true, List, [], ◌∷◌, ◌++◌, reverse, Option, Some, None, MatchOption}
use Rattle.std.specs.Prelude.{MatchBool}
use Rattle.std.specs.Option.{option_map_or}
use Rattle.paw_base.specs.declared.words.TheConstants.{NO_WORD}
use Rattle.paw_base.specs.inner.Steps.{kept_steps}
use Rattle.paw_game.specs.Game.{GameLists}
use Rattle.paw_game.specs.Valid.{Valid}
use Rattle.paw_world.specs.World.{World}
use Rattle.paw_phrase.specs.Pending.{PendingLine}
use Rattle.paw_routines.specs.declared.routines.Routines.{Routines}
use Rattle.paw_effects.specs.declared.act.Prompt.{Prompt}
use Rattle.paw_effects.specs.declared.act.Prompt.TheVariants as prompt
use Rattle.paw_effects.specs.inner.Opening.{opening_world}
use Rattle.paw_effects.specs.Story.{Story}
use Rattle.paw_reading.specs.Run.{Run, StepRow}
use Rattle.paw_reading.specs.Reading.{closes_piece}
use Rattle.paw_reading.specs.declared.halt.Halt.{Halt}
use Rattle.paw_reading.specs.declared.halt.Halt.TheVariants as halt
use Rattle.paw_reading.specs.Turn.{Ending, Halted, first_table, going_on_from}
use Rattle.paw_reading.specs.inner.Waits.{IsLoopOf, StandsRightly}
use Rattle.paw_process.specs.inner.OpenTables.{OpenTables}
use Rattle.paw_process.specs.inner.OpenTables.{IsWaiting, IsClosed, new_machine, only_counting}
use Rattle.paw_turn.specs.declared.Step.{Step}
use Rattle.paw_turn.specs.declared.Step.TheVariants as step
use Rattle.paw_turn.specs.declared.phase.TurnStop.{TurnStop}
use Rattle.paw_turn.specs.declared.phase.TurnStop.TheVariants as stop

-- ---- steps ----

-- The step of a player whose turn stopped for this reason.
abbrev pub step_of : TurnStop → Step
step_of (stop.Waits p) = step.Waits p
step_of (stop.Halted halt.Over) = step.Ended
step_of (stop.Halted (halt.Spent kind)) = step.Spent kind
step_of (stop.Halted (halt.TooDeep table)) = step.TooDeep table

-- The halt that a line brought; none where the player waits.
abbrev pub step_halt : Step → Option Halt
step_halt (step.Waits p) = None
step_halt step.Ended = Some halt.Over
step_halt (step.Spent kind) = Some (halt.Spent kind)
step_halt (step.TooDeep table) = Some (halt.TooDeep table)

-- It brings a piece: the player waits, or play ended with its last piece closed.
abbrev pub brings_piece : Step → Bool
brings_piece s = option_map_or closes_piece (step_halt s) true

-- ---- players ----

-- A player between two lines: its game and the routines that it calls, the world, what is left of the line, the open
-- tables with the steps of the last piece, the text of that piece, and how its last line ended.
pub record PlayerView (F : Type 0) : Type 0 where
  pub game : GameLists
  pub routines : Routines F
  pub world : World
  pub pending : PendingLine
  pub machine : OpenTables
  pub piece : Text
  pub last : Step

-- The run that these parts stand for, with these closed pieces, the steps of each, and these lines to come.
abbrev pub run_with : World → OpenTables → PendingLine → Texts → List (List StepRow) → Lines → Run
run_with w m p pieces traces lines = record {
  world = w;
  pending = p.bytes;
  earlier = p.earlier;
  turning = m.turning;
  current = [];
  read = [];
  pieces = pieces;
  traces = traces;
  events = lines;
}

-- The run that a player stands for.
abbrev pub run_at : {F : Type 0} → PlayerView F → Texts → List (List StepRow) → Lines → Run
run_at p pieces traces lines = run_with p.world p.machine p.pending pieces traces lines

-- Whatever lines come after, the whole reading of them ends this way, with no further piece and none to show.
abbrev pub PlayHalts : {F : Type 0} → (Lines → Ending) → Halt → PlayerView F → Texts → List (List StepRow) → Type 0
PlayHalts whole halt new pieces traces =
    (new.piece ≡ []) × ((lines : Lines) → (r : Run) × (whole lines ≡ Halted halt r)
    × (r.pieces ≡ pieces) × (r.traces ≡ traces) × (r.events ≡ lines))

-- Playing on in a story ends this way. Whatever lines come after, the whole reading of them goes on from the player's
-- prompt with one more piece; or is over with one more piece, as the player stands; or is spent, or a call is too deep,
-- with no further piece and none to show. Of the piece that was closed the player keeps as many steps as it keeps of
-- each.
abbrev pub PlaysTo : {F : Type 0} → Story → (Lines → Ending) → Step → PlayerView F → Texts → List (List StepRow)
    → Type 0
PlaysTo g whole (step.Waits p) new pieces traces =
    (read : List StepRow) × ((new.machine.steps ≡ kept_steps new.machine.steps.most read) × ((lines : Lines) →
    whole lines
    ≡ going_on_from g p (reverse new.machine.frames)
    (run_at new (pieces ++ new.piece ∷ []) (traces ++ read ∷ []) lines)))
PlaysTo g whole step.Ended new pieces traces =
    (read : List StepRow) × ((new.machine.steps ≡ kept_steps new.machine.steps.most read) × ((lines : Lines) →
    whole lines ≡ Halted halt.Over (run_at new (pieces ++ new.piece ∷ []) (traces ++ read ∷ []) lines)))
PlaysTo g whole s new pieces traces = MatchOption (step_halt s) ⊥ (λ halt. PlayHalts whole halt new pieces traces)

-- The machine waits at this prompt in the tables that are open.
pub record WaitsIn (p : Prompt) (m : OpenTables) : Type 0 where
  pub tables : IsWaiting p m
  pub loop : IsLoopOf (first_table (reverse m.frames)) m.turning

-- At the main prompt no table is open; at an inner one the machine waits there.
abbrev pub StandsAt : Prompt → OpenTables → Type 0
StandsAt prompt.Main m = IsClosed m
StandsAt prompt.Quit m = WaitsIn prompt.Quit m
StandsAt prompt.Again m = WaitsIn prompt.Again m
StandsAt prompt.Key m = WaitsIn prompt.Key m
StandsAt prompt.Over m = ⊥

-- A player that is finished has no table open.
abbrev pub StandsClosed : Step → OpenTables → Type 0
StandsClosed (step.Waits p) m = StandsAt p m
StandsClosed _ m = IsClosed m

-- A player whose play has ended takes no more lines.
abbrev pub IsFinished : Step → Type 0
IsFinished (step.Waits p) = ⊥
IsFinished _ = Unit {0}

-- The prompt at which a player stands; one whose play has ended stands where the game is over.
abbrev pub prompt_at : Step → Prompt
prompt_at (step.Waits p) = p
prompt_at _ = prompt.Over

-- A player that brought a piece stands at its prompt.
abbrev pub IsStanding : Step → Type 0
IsStanding s = MatchBool (brings_piece s) (Unit {0}) ⊥

-- Parts stand in a game at a prompt as a run may.
abbrev pub StandRightly : GameLists → Prompt → World → OpenTables → PendingLine → Type 0
StandRightly g at w m p = StandsRightly g at (reverse m.frames) (run_with w m p [] [] [])

-- A player of a valid game may take lines: where it stands at a prompt it stands as a run may.
pub record IsSeated {F : Type 0} (p : PlayerView F) : Type 0 where
  pub valid : Valid p.game
  pub machine : StandsClosed p.last p.machine
  pub rightly : IsStanding p.last → StandRightly p.game (prompt_at p.last) p.world p.machine p.pending

-- The player forgets the steps that it kept, and from here on only counts them.
abbrev pub only_counting_player : {F : Type 0} → PlayerView F → PlayerView F
only_counting_player p = record p { machine = only_counting p.machine }

-- A player that is new: the game is at its start, and no piece was made. It may keep any number of steps.
pub record IsNew {F : Type 0} (p : PlayerView F) (seed : Seed) : Type 0 where
  pub world : p.world ≡ opening_world p.game seed
  pub pending : p.pending ≡ record { bytes = []; earlier = NO_WORD }
  pub machine : p.machine ≡ new_machine p.machine.steps.most
  pub piece : p.piece ≡ []
