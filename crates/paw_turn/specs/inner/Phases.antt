-- What the phases of a turn mean in the reading. Only the contracts of private functions use this.
use Rattle.std.specs.Prelude.{◌≡◌, ℕ, zero, suc, ◌+◌, ◌*◌, ◌<◌, ◌≤◌, ◌^◌, Bool, false, List, Option}
use Rattle.std.specs.Prelude.{[], ◌∷◌, ◌++◌, length, reverse, if◌then◌else◌, MatchBool}
use Rattle.std.specs.Fn.{Shared}
use Rattle.paw_base.specs.Bytes.{Bytes, Line, Lines, Text, Texts}
use Rattle.paw_base.specs.declared.limits.TheConstants.{READ_LIMIT}
use Rattle.paw_base.specs.declared.fault.SpentKind.TheVariants as spent
use Rattle.paw_game.specs.Game.{GameLists}
use Rattle.paw_game.specs.Valid.{Valid}
use Rattle.paw_world.specs.World.{World}
use Rattle.paw_phrase.specs.Pending.{PendingLine}
use Rattle.paw_routines.specs.declared.routines.Routines.{Routines}
use Rattle.paw_routines.specs.Routines.{HaveAnswers}
use Rattle.paw_effects.specs.declared.act.Prompt.{Prompt}
use Rattle.paw_effects.specs.declared.act.Prompt.TheVariants as prompt
use Rattle.paw_effects.specs.Worlds.{IsOf}
use Rattle.paw_effects.specs.Story.{Story}
use Rattle.paw_reading.specs.declared.frames.Frame.{Frame}
use Rattle.paw_reading.specs.declared.frames.OpenLoop.{OpenLoop}
use Rattle.paw_reading.specs.Run.{Run, StepRow, piece_closed, is_ignored}
use Rattle.paw_reading.specs.declared.halt.Halt.{Halt}
use Rattle.paw_reading.specs.declared.halt.Halt.TheVariants as halt
use Rattle.paw_reading.specs.Reading.{Out, closes_piece, table_read}
use Rattle.paw_reading.specs.GoingOn.{on_path}
use Rattle.paw_reading.specs.Turn.{Ending, Halted, AtDescribe, AtTimeFrame, AtPhrase, AtResponse}
use Rattle.paw_reading.specs.Turn.{table_done, turn, first_table, goes_on, TurnPhase}
use Rattle.paw_process.specs.inner.OpenTables.{OpenTables}
use Rattle.paw_process.specs.inner.OpenTables.{HasRead, IsClosed, budget_refilled}
use Rattle.paw_process.specs.inner.Meaning.{SamePast, ComesTo}
use Rattle.paw_process.specs.declared.Turned.{Turned}
use Rattle.paw_process.specs.declared.Turned.TheVariants as turned
use Rattle.paw_turn.specs.declared.Step.{Step}
use Rattle.paw_turn.specs.declared.phase.TurnStop.{TurnStop}
use Rattle.paw_turn.specs.declared.phase.TurnStop.TheVariants as stop
use Rattle.paw_turn.specs.declared.phase.Phase.{Phase}
use Rattle.paw_turn.specs.declared.phase.Phase.TheVariants as phase
use Rattle.paw_turn.specs.declared.phase.Next.{Next}
use Rattle.paw_turn.specs.declared.phase.Next.TheVariants as next
use Rattle.paw_turn.specs.declared.turn.PlayState.{PlayState}
use Rattle.paw_turn.specs.inner.Player.{step_of, brings_piece, PlayerView, WaitsIn, StandsAt, StandsClosed}

-- ---- runs ----

-- The steps of the open piece, and the closed pieces with theirs.
pub record Past : Type 0 where
  pub read : List StepRow
  pub pieces : Texts
  pub traces : List (List StepRow)

-- The run with this world, this pending line and its earlier verb, this open loop, this text in the open piece, this
-- past, and these lines to come.
abbrev pub run_from : World → Bytes → ℕ → Option OpenLoop → Text → Past → Lines → Run
run_from w bytes earlier turning text past lines = record {
  world = w;
  pending = bytes;
  earlier = earlier;
  turning = turning;
  current = text;
  read = past.read;
  pieces = past.pieces;
  traces = past.traces;
  events = lines;
}

-- The run that shows what stands in this state of play, with this past and these lines to come.
abbrev pub run_now : PlayState → Past → Lines → Run
run_now h past lines =
    let s = h.surroundings in
    run_from s.world s.pending.bytes s.pending.earlier h.machine.turning s.piece past lines

-- The open piece has read some condacts.
abbrev pub HasReadSome : OpenTables → Type 0
HasReadSome m = (read : List StepRow) × HasRead read m

-- The past with these steps of the open piece.
abbrev pub having_read : List StepRow → Past → Past
having_read read past = record past { read = read }

-- ---- phases ----

-- The phase of the reading that is the code's phase.
abbrev pub at_phase : Phase → TurnPhase
at_phase phase.Describe = AtDescribe
at_phase phase.TimeFrame = AtTimeFrame
at_phase phase.Phrase = AtPhrase
at_phase phase.Response = AtResponse

-- A turn ends for good this way, in a run with the same past.
abbrev pub TurnHalts : Halt → Run → Ending → Type 0
TurnHalts halt r x = (s : Run) × (x ≡ Halted halt s) × SamePast r s

-- A turn stops here: it waits along the frames; or play has ended with the piece closed, or with no piece more.
abbrev pub StopsAs : Story → ℕ → TurnStop → List Frame → Run → Ending → Type 0
StopsAs g n (stop.Waits p) fs r x = x ≡ goes_on g n p (reverse fs) (piece_closed r)
StopsAs g n (stop.Halted halt) fs r x =
    MatchBool (closes_piece halt) (x ≡ Halted halt (piece_closed r)) (TurnHalts halt r x)

-- How a turn goes on: with the next phase, or not at all.
abbrev pub GoesOnAs : Story → ℕ → Next → List Frame → Run → Ending → Type 0
GoesOnAs g n (next.Go s) fs r x = x ≡ turn g n (at_phase s) r
GoesOnAs g n (next.Stop stop) fs r x = StopsAs g n stop fs r x

-- What x says leads from what stood to what stands now, and no condact is read.
abbrev pub Moves : Story → (ℕ → Run → Ending) → PlayState → Next → PlayState → Type 0
Moves g x old next new =
    (past : Past) (n : ℕ) (lines : Lines) →
    GoesOnAs g n next new.machine.frames (run_now new past lines) (x n (run_now old past lines))

-- What x says leads from what stood to what stands now: there is what the open piece has read by then.
abbrev pub ReadsTurn : Story → (ℕ → Run → Ending) → PlayState → Next → PlayState → Type 0
ReadsTurn g x old next new =
    (past : Past) → HasRead past.read old.machine → (read : List StepRow) × (HasRead read new.machine
    × ((n : ℕ) (lines : Lines) →
    GoesOnAs g n next new.machine.frames (run_now new (having_read read past) lines) (x n (run_now old past lines))))

-- A reading, with enough phases granted, leads from what stood to what stands now.
abbrev pub PlaysAs : Story → (ℕ → Past → Lines → Ending) → PlayState → Next → PlayState → Type 0
PlaysAs g whole old next new =
    (past : Past) → HasRead past.read old.machine → (read : List StepRow) × (HasRead read new.machine
    × ((n : ℕ) (lines : Lines) →
    (m : ℕ) × GoesOnAs g n next new.machine.frames (run_now new (having_read read past) lines) (whole m past lines)))

-- The turn from a phase on.
abbrev pub from_phase : Story → Phase → PlayState → ℕ → Past → Lines → Ending
from_phase g s h m past lines = turn g m (at_phase s) (run_now h past lines)

-- Going on from a prompt with a line.
abbrev pub from_prompt : Story → Prompt → PlayState → Line → ℕ → Past → Lines → Ending
from_prompt g p h line m past lines = goes_on g m p (reverse h.machine.frames) (run_now h past (line ∷ lines))

-- From a phase in the state `old`, play gets to `next` in the state `new`, whatever lines come.
abbrev pub Plays : Story → Phase → PlayState → Next → PlayState → Type 0
Plays g first old next new = PlaysAs g (from_phase g first old) old next new

-- The machine has read as x says, from what stood to a stop.
abbrev pub RunsAs : Story → (Past → Lines → Out) → PlayState → Turned → PlayState → Type 0
RunsAs g x old turned new =
    (past : Past) → HasRead past.read old.machine → (steps : List StepRow) × (HasRead (past.read ++ steps) new.machine
    × ((lines : Lines) →
    ComesTo g turned new.machine.frames (run_now new (having_read (past.read ++ steps) past) lines) (x past lines)))

-- The reading of a table from its start.
abbrev pub from_table : Story → ℕ → PlayState → Past → Lines → Out
from_table g t h past lines = table_read g t (run_now h past lines)

-- Going on in the open tables, with a line.
abbrev pub from_path : Story → Prompt → PlayState → Line → Past → Lines → Out
from_path g p h line past lines = on_path g p 0 (reverse h.machine.frames) (run_now h past (line ∷ lines))

-- A table at level 0 ended where the machine stopped; the turn goes on from there, and no condact is read.
abbrev pub MovesAfter : Story → ℕ → Turned → PlayState → Next → PlayState → Type 0
MovesAfter g t turned old next new =
    (past : Past) (n : ℕ) (lines : Lines) (x : Out) →
    ComesTo g turned old.machine.frames (run_now old past lines) x →
    GoesOnAs g n next new.machine.frames (run_now new past lines) (table_done g (turn g n) t x)

-- ---- what stands between two phases ----

-- The world is the game's, and it can make all draws that the piece may still ask for.
pub record IsPlayable (g : GameLists) (h : PlayState) : Type 0 where
  pub world : IsOf g h.surroundings.world
  pub budget : h.machine.left ≤ READ_LIMIT
  pub draws : h.surroundings.world.draws + h.machine.left < 2 ^ 64

-- A phase may begin: no table is open.
pub record MayGoOn (g : GameLists) (h : PlayState) : Type 0 where
  pub playable : IsPlayable g h
  pub closed : IsClosed h.machine

-- Tables may be read in a phase.
pub record MayReadTables {F : Type 0} (calls : Shared F (ℕ × (ℕ × Unit {0})) ℕ) (routines : Routines F)
    (g : GameLists) (h : PlayState) : Type 0 where
  pub answers : HaveAnswers calls routines
  pub read : HasReadSome h.machine
  pub ready : MayGoOn g h

-- A line may be taken at this prompt.
pub record MayHear (g : GameLists) (p : Prompt) (h : PlayState) : Type 0 where
  pub valid : Valid g
  pub read : HasReadSome h.machine
  pub playable : IsPlayable g h
  pub stands : StandsAt p h.machine

-- Before the next phase no table is open, and after a stop the machine stands as it does there.
abbrev pub StandsBefore : Next → OpenTables → Type 0
StandsBefore (next.Go s) m = IsClosed m
StandsBefore (next.Stop stop) m = StandsClosed (step_of stop) m

-- The world is the game's still, each draw is paid for by a condact, and as many steps are kept as before.
pub record Stays (g : GameLists) (old new : PlayState) : Type 0 where
  pub world : IsOf g new.surroundings.world
  pub left : new.machine.left ≤ old.machine.left
  pub draws : new.surroundings.world.draws + new.machine.left ≤ old.surroundings.world.draws + old.machine.left
  pub most : new.machine.steps.most ≡ old.machine.steps.most

-- The same holds after a phase, and the machine stands as what comes next needs it.
pub record StaysInGame (g : GameLists) (old : PlayState) (next : Next) (new : PlayState) : Type 0 where
  pub stays : Stays g old new
  pub machine : StandsBefore next new.machine

-- The machine waits at a prompt in this table.
abbrev pub WaitsInTable : ℕ → Prompt → OpenTables → Type 0
WaitsInTable t prompt.Main m = ⊥
WaitsInTable t prompt.Quit m = WaitsIn prompt.Quit m × (first_table (reverse m.frames) ≡ t)
WaitsInTable t prompt.Again m = WaitsIn prompt.Again m × (first_table (reverse m.frames) ≡ t)
WaitsInTable t prompt.Key m = WaitsIn prompt.Key m × (first_table (reverse m.frames) ≡ t)
WaitsInTable t prompt.Over m = ⊥

-- Where the machine stopped in this table it waits, or no table is open.
abbrev pub StopsInTable : ℕ → Turned → OpenTables → Type 0
StopsInTable t (turned.Waits p) m = WaitsInTable t p m
StopsInTable t _ m = IsClosed m

-- ---- turns end ----

-- How much may still be read.
abbrev pub left_of : PlayState → ℕ
left_of h = length h.surroundings.pending.bytes + h.machine.left

-- The rank of a phase: each leads to one of a lower rank, unless something was read.
abbrev pub phase_rank : Phase → ℕ
phase_rank phase.Phrase = 1
phase_rank phase.TimeFrame = 2
phase_rank phase.Describe = 3
phase_rank phase.Response = 4

-- A measure of what is left to do: four for each thing that may still be read, and the rank of the phase.
abbrev pub work : Phase → PlayState → ℕ
work s h = 4 * left_of h + phase_rank s

-- With the next phase there is less to do.
abbrev pub Falls : ℕ → Next → PlayState → Type 0
Falls most (next.Go s) new = work s new < most
Falls most (next.Stop stop) new = Unit {0}

-- A table leaves at most this much to read, and less where the location is described again.
abbrev pub Leaves : Turned → ℕ → ℕ → Type 0
Leaves (turned.Left acted) old new = new ≤ old
Leaves turned.Redescribe old new = new < old
Leaves _ old new = Unit {0}

-- What a table's reading uses up.
pub record Uses (turned : Turned) (old new : PlayState) : Type 0 where
  pub left : new.machine.left ≤ old.machine.left
  pub leaves : Leaves turned (left_of old) (left_of new)

-- ---- worlds ----

-- The worlds differ at most in flags.
pub record ChangesFlags (old new : World) : Type 0 where
  pub facts : new.facts ≡ old.facts
  pub locations : new.locations ≡ old.locations
  pub flags : length new.flags ≡ length old.flags
  pub places : new.places ≡ old.places
  pub draws : new.draws ≡ old.draws

-- ---- texts ----

-- Play has ended for this reason, and nothing goes on.
abbrev pub halt_next : Halt → Next
halt_next halt = next.Stop (stop.Halted halt)

-- How a turn goes on where a text was shown; where it wasn't, the piece is spent.
abbrev pub or_spent : Bool → Next → Next
or_spent shown n = if shown then n else halt_next (halt.Spent spent.Text)

-- ---- tables ----

-- The phase in which table 0, 1 or 2 is read, by its rank.
abbrev pub table_rank : ℕ → ℕ
table_rank zero = 4
table_rank (suc zero) = 3
table_rank (suc (suc t)) = 2

-- Once a table is left there is less to do than in its phase; where the location is described again, nothing was done
-- yet.
abbrev pub FallsAfter : ℕ → Turned → PlayState → Next → PlayState → Type 0
FallsAfter t (turned.Left acted) old next new = Falls (4 * left_of old + table_rank t) next new
FallsAfter t turned.Redescribe old n new = (n ≡ next.Go phase.Describe) × (new ≡ old)
FallsAfter t _ old next new = (m : ℕ) → Falls m next new

-- ---- lines ----

-- The machine waits for an answer at this prompt.
abbrev pub AwaitsAt : Prompt → OpenTables → Type 0
AwaitsAt prompt.Main m = ⊥
AwaitsAt prompt.Quit m = WaitsIn prompt.Quit m
AwaitsAt prompt.Again m = ⊥
AwaitsAt prompt.Key m = WaitsIn prompt.Key m
AwaitsAt prompt.Over m = ⊥

-- This line answers the prompt: it isn't ignored, and the machine waits for it.
pub record MayAnswer (g : GameLists) (p : Prompt) (line : Line) (h : PlayState) : Type 0 where
  pub heard : is_ignored h.surroundings.world line ≡ false
  pub valid : Valid g
  pub read : HasReadSome h.machine
  pub playable : IsPlayable g h
  pub awaits : AwaitsAt p h.machine

-- ---- players ----

-- The view of a player that contracts have.
abbrev pub seat_of : {F : Type 0} → GameLists → Routines F → PlayState → Step → PlayerView F
seat_of g routines h last = record {
  game = g;
  routines = routines;
  world = h.surroundings.world;
  pending = h.surroundings.pending;
  machine = h.machine;
  piece = h.surroundings.piece;
  last = last;
}

-- The state of play with this world.
abbrev pub in_world : World → PlayState → PlayState
in_world w h = record h { surroundings = record h.surroundings { world = w } }

-- The state of play with this world and this pending line.
abbrev pub with_world_and_line : World → PendingLine → PlayState → PlayState
with_world_and_line w p h = record h { surroundings = record h.surroundings { world = w; pending = p } }

-- The state of play with this piece.
abbrev pub with_piece : Text → PlayState → PlayState
with_piece piece h = record h { surroundings = record h.surroundings { piece = piece } }

-- The piece that is shown: nothing where play ended before the piece was closed.
abbrev pub piece_shown : Step → Text → Text
piece_shown s piece = if brings_piece s then piece else []

-- The state of play with the piece that is shown after this end of a line.
abbrev pub state_settled : Step → PlayState → PlayState
state_settled step h = with_piece (piece_shown step h.surroundings.piece) h

-- The state of play with a new piece to be read.
abbrev pub opened_piece : PlayState → PlayState
opened_piece h = record h { surroundings = record h.surroundings { piece = [] }; machine = budget_refilled h.machine }
