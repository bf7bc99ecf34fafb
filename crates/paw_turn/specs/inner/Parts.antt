-- The parts of a player: what is lent of it, and a player that stands with such parts.
use Rattle.std.specs.Prelude.{◌≡◌, ℕ, ◌<◌, List, [], None, length, reverse}
use Rattle.paw_base.specs.Bytes.{Lines, Text, Texts}
use Rattle.paw_base.specs.declared.limits.TheConstants.{STEP_LIMIT}
use Rattle.paw_base.specs.inner.Steps.{KeptSteps}
use Rattle.paw_game.specs.Game.{GameLists}
use Rattle.paw_world.specs.World.{World}
use Rattle.paw_phrase.specs.Pending.{PendingLine}
use Rattle.paw_routines.specs.declared.routines.Routines.{Routines}
use Rattle.paw_effects.specs.declared.act.Prompt.{Prompt}
use Rattle.paw_effects.specs.declared.act.Prompt.TheVariants as prompt
use Rattle.paw_effects.specs.inner.Standing.{IsWorldOf}
use Rattle.paw_effects.specs.Story.{Story}
use Rattle.paw_reading.specs.Run.{StepRow}
use Rattle.paw_reading.specs.Turn.{going_on_from}
use Rattle.paw_reading.specs.Bounds.{IsLine}
use Rattle.paw_process.specs.declared.machine.TheConstants.{MOST_FRAMES}
use Rattle.paw_process.specs.inner.OpenTables.{OpenTables}
use Rattle.paw_process.specs.inner.OpenTables.{refilled_to_keep}
use Rattle.paw_process.specs.inner.Kept.{machine_kept, frames_fault, machine_restored, waiting_at}
use Rattle.paw_process.specs.inner.Kept.{WaitsAtPrompt as MachineStandsAt}
use Rattle.paw_process.specs.declared.kept.Frames.{Frames}
use Rattle.paw_turn.specs.declared.Step.{Step}
use Rattle.paw_turn.specs.declared.Step.TheVariants as step
pub use Rattle.paw_turn.specs.inner.Player.{prompt_at, IsStanding}
use Rattle.paw_turn.specs.inner.Player.{PlayerView, IsSeated, StandsClosed, StandRightly, run_at}

-- How the last line of a player ended: the player waits at this prompt, or the game is over.
abbrev pub prompt_step : Prompt → Step
prompt_step prompt.Main = step.Waits prompt.Main
prompt_step prompt.Quit = step.Waits prompt.Quit
prompt_step prompt.Again = step.Waits prompt.Again
prompt_step prompt.Key = step.Waits prompt.Key
prompt_step prompt.Over = step.Ended

-- Parts fit a game at a prompt: they stand there as a run may, and the machine waits at the prompt or, where it is the
-- main one or the game is over, no table is open.
pub record Fits (g : GameLists) (w : World) (m : OpenTables) (p : PendingLine) (at : Prompt) : Type 0 where
  pub machine : StandsClosed (prompt_step at) m
  pub rightly : StandRightly g at w m p

-- The player of a game that stands at a prompt with these parts, and shows no piece.
abbrev pub seat_at : {F : Type 0} → GameLists → Routines F → World → OpenTables → PendingLine → Prompt → PlayerView F
seat_at g routines w m p at = record {
  game = g;
  routines = routines;
  world = w;
  pending = p;
  machine = m;
  piece = [];
  last = prompt_step at;
}

-- ---- laws ----

-- With no table open nothing is left of the line.
abbrev pub HasTakenLine : OpenTables → PendingLine → Type 0
HasTakenLine m p = m.frames ≡ [] → p.bytes ≡ []

-- What is pending is a line of at most 255 bytes, of which nothing is left where no table is open; the earlier verb is
-- a byte.
pub record IsPending (m : OpenTables) (p : PendingLine) : Type 0 where
  pub bytes : IsLine p.bytes
  pub taken : HasTakenLine m p
  pub earlier : p.earlier < 256

-- Parts that a session gives back fit: a world of the game, a machine restored for it, what may be pending there.
abbrev pub RestoredFits : Type 0
RestoredFits =
    (g : GameLists) (at : Prompt) (k : Frames) (w : World) (m : OpenTables) (p : PendingLine) →
    IsWorldOf g w → IsPending m p → length k.rows ≡ MOST_FRAMES →
    m ≡ machine_restored k (waiting_at at) → MachineStandsAt at m → frames_fault g at k ≡ None → Fits g w m p at

-- The player that stands with what is kept of a player's machine, and with its other parts.
abbrev pub seated_again : {F : Type 0} → PlayerView F → PlayerView F
seated_again p =
    let at = prompt_at p.last in
    seat_at p.game p.routines p.world (machine_restored (machine_kept p.machine) (waiting_at at)) p.pending at

-- A player seated with its own parts is the same, except that it shows no piece, has a full budget and no steps, and
-- keeps the first 1,000 of those to come.
abbrev pub SeatedAgain : Type 0 → Type 0
SeatedAgain F =
    (p : PlayerView F) → IsSeated p → IsStanding p.last →
    seated_again p ≡ record p { piece = []; machine = refilled_to_keep STEP_LIMIT p.machine }

-- What follows from lines depends on neither the last piece, nor the budget that it left, nor its steps: each line
-- opens a piece of its own.
abbrev pub GoesOnAlike : Type 0 → Type 0
GoesOnAlike F =
    (g : Story) (p : PlayerView F) (at : Prompt) (piece : Text) (left : ℕ) (steps : KeptSteps)
    (pieces : Texts) (traces : List (List StepRow)) (lines : Lines) →
    let other : PlayerView F = record p { piece = piece; machine = record p.machine { left = left; steps = steps } } in
    going_on_from g at (reverse p.machine.frames) (run_at other pieces traces lines)
    ≡ going_on_from g at (reverse p.machine.frames) (run_at p pieces traces lines)
