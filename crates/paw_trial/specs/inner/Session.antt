-- The session of a trial, on the way.
use Rattle.std.specs.Prelude.{◌≡◌, ℕ, ◌+◌, ◌*◌, ◌/◌, [], length, take}
use Rattle.std.specs.Prelude.{drop, codes, slice_index, Option, Some, None}
use Rattle.paw_base.specs.Bytes.{Bytes, Lines, Name}
use Rattle.std.specs.Option.{option_map_or}
use Rattle.paw_base.specs.declared.flags.TheConstants.{CARRIED_FLAG, LOW_TURNS_FLAG, HIGH_TURNS_FLAG, LOCATION_FLAG}
use Rattle.paw_stage.specs.Disk.{IsStable}
use Rattle.paw_stage.specs.Stage.{Standing}
use Rattle.paw_stage.specs.inner.Memory.{Memory, empty, standing_of}
use Rattle.paw_effects.specs.Counts.{turns_taken}
use Rattle.paw_world.specs.World.{World, flag}
use Rattle.paw_reading.specs.Turn.{Ending, WaitsAt, reading}
use Rattle.paw_play.specs.declared.PlayEnd.{PlayEnd}
use Rattle.paw_play.specs.declared.PlayEnd.TheVariants as play
use Rattle.paw_play.specs.Walk.{end_halt}
use Rattle.paw_play.specs.Played.{session_begun}
use Rattle.paw_play.specs.Play.{store_bytes, NewSession, PlaysAgain}
use Rattle.paw_play.specs.Stands.{Stands}
use Rattle.paw_gen.specs.Trial.{trial_lines}
use Rattle.paw_trial.specs.Trial.{trial_story, trial_reading}
use Rattle.paw_trial.specs.inner.Trial.{trial_end, TrialStopsAs}
use Rattle.paw_trial.specs.declared.setup.Half.{Half}
use Rattle.paw_trial.specs.declared.setup.Half.TheVariants as half
use Rattle.paw_trial.specs.declared.TrialEnd.{TrialEnd}
use Rattle.paw_trial.specs.declared.TrialEnd.TheVariants as end
use Rattle.paw_trial.specs.declared.Tally.{Tally}

-- The name of the store.
abbrev pub trial_store : Name
trial_store = codes "trial"

-- The first half of the lines of a trial, rounded down.
abbrev pub first_half : ℕ → Lines
first_half n = take (length (trial_lines n) / 2) (trial_lines n)

-- The second half of the lines.
abbrev pub second_half : ℕ → Lines
second_half n = drop (length (trial_lines n) / 2) (trial_lines n)

-- The lines of a half.
abbrev pub half_lines : Half → ℕ → Lines
half_lines half.First n = first_half n
half_lines half.Second n = second_half n

-- The lines that are played once a half is.
abbrev pub lines_by : Half → ℕ → Lines
lines_by half.First n = first_half n
lines_by half.Second n = trial_lines n

-- The reading waits for another line.
abbrev pub Waits : Ending → Type 0
Waits (WaitsAt p path r) = Unit {0}
Waits _ = ⊥

-- Nothing is unsynced at the stage, and no line is left. Its store stands for these lines of the trial's game, whose
-- reading waits for another.
pub record HoldsLines (n : ℕ) (es : Lines) (s : Standing) : Type 0 where
  pub stable : IsStable s.disk
  pub none : s.lines ≡ []
  pub waits : Waits (reading (trial_story n) n es)
  pub stands : Stands (trial_story n) n es (store_bytes s trial_store)

-- A stage is ready for a half: it is new, or it holds the first half.
abbrev pub IsReadyFor : Half → ℕ → Memory → Type 0
IsReadyFor half.First n m = m ≡ empty 4000 16000000
IsReadyFor half.Second n m = HoldsLines n (first_half n) (standing_of m)

-- The lines of a half are played: with a new session, or with that session resumed.
abbrev pub PlaysHalf : Half → ℕ → Standing → Standing → PlayEnd → Type 0
PlaysHalf half.First n old new end = NewSession (session_begun (trial_story n) n trial_store) old new end
PlaysHalf half.Second n old new end = PlaysAgain (trial_story n) trial_store old new end

-- The session holds these lines, or the trial stops.
abbrev pub HoldsOrStops : ℕ → Lines → Standing → Option TrialEnd → Type 0
HoldsOrStops n es new None = HoldsLines n es new
HoldsOrStops n es new (Some stop) = TrialStopsAs stop (trial_reading n)

-- How a trial stops where playing ends this way before its lines are taken.
abbrev pub stop_early : PlayEnd → TrialEnd
stop_early o = option_map_or trial_end (end_halt o) end.Memory

-- How a trial stops where playing ends this way; it goes on where no line is left.
abbrev pub stop_of : PlayEnd → Option TrialEnd
stop_of play.InputEnded = None
stop_of o = Some (stop_early o)

-- What a world counts.
abbrev pub tally_of : World → Tally
tally_of w = record { turns = turns_taken w; at = flag w LOCATION_FLAG; carried = flag w CARRIED_FLAG }

-- The reading waits, and this is what its world counts.
abbrev pub IsTallyOf : Ending → Tally → Type 0
IsTallyOf (WaitsAt p path r) t = t ≡ tally_of r.world
IsTallyOf _ t = ⊥

-- What the bytes of a state, which begin with the flags, count.
abbrev pub tally_in : Bytes → Tally
tally_in state = record {
  turns = slice_index state LOW_TURNS_FLAG + 256 * slice_index state HIGH_TURNS_FLAG;
  at = slice_index state LOCATION_FLAG;
  carried = slice_index state CARRIED_FLAG;
}
