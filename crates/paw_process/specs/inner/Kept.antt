-- What is kept of a machine that waits, and the rules that it follows: words that contracts between crates and proofs
-- use besides those of specs/Kept.antt.
use Rattle.std.specs.Prelude.{ℕ, suc, ◌-◌, ◌==◌, ◌&&◌, Bool, true, false, not, List, [], ◌∷◌, Option, Some, None}
use Rattle.std.specs.Prelude.{reverse, take}
use Rattle.std.specs.Prelude.{length, slice_get, nat_lt, if◌then◌else◌}
use Rattle.std.specs.Option.{option_map, option_map_or, option_or, unwrap_or}
use Rattle.paw_base.specs.declared.codes.TheConstants.{PROCESS, DOALL}
use Rattle.paw_base.specs.declared.limits.TheConstants.{READ_LIMIT, STEP_LIMIT}
use Rattle.paw_base.specs.declared.parts.Condact.{Condact}
use Rattle.paw_base.specs.inner.Steps.{no_steps}
use Rattle.paw_game.specs.Game.{GameLists}
use Rattle.paw_game.specs.Tables.{condact_at}
use Rattle.paw_game.specs.Valid.{is_place}
use Rattle.paw_effects.specs.declared.act.Prompt.{Prompt}
use Rattle.paw_effects.specs.declared.act.Prompt.TheVariants as prompt
use Rattle.paw_reading.specs.declared.frames.Frame.{Frame}
use Rattle.paw_reading.specs.declared.frames.OpenLoop.{OpenLoop}
use Rattle.paw_process.specs.declared.machine.TheConstants.{MOST_FRAMES}
use Rattle.paw_process.specs.Kept.{frames_at, waiting_code, may_open, has_code, parameter_of, count_fits}
use Rattle.paw_process.specs.inner.OpenTables.{OpenTables}
use Rattle.paw_process.specs.inner.OpenTables.{IsWaiting, IsClosed}
use Rattle.paw_process.specs.declared.kept.Frames.{Frames}

-- An unused frame.
abbrev pub blank_frame : Frame
blank_frame = record { table = 0; entry = 0; at = 0; acted = false }

-- What is kept of a machine: its frames, the outermost first, and its loop.
abbrev pub machine_kept : OpenTables → Frames
machine_kept m = frames_at (reverse m.frames) m.turning

-- The machine of what is kept, which waits at this prompt, with a full budget and no steps.
abbrev pub machine_restored : Frames → Option Prompt → OpenTables
machine_restored k waiting = record {
  frames = reverse (take k.count k.rows);
  turning = k.turning;
  waiting = waiting;
  left = READ_LIMIT;
  steps = no_steps STEP_LIMIT;
}

-- ---- the rules ----

-- Inside tables the machine waits at the prompt; at other prompts nothing is open.
abbrev pub WaitsAtPrompt : Prompt → OpenTables → Type 0
WaitsAtPrompt prompt.Main m = IsClosed m
WaitsAtPrompt prompt.Quit m = IsWaiting prompt.Quit m
WaitsAtPrompt prompt.Again m = IsWaiting prompt.Again m
WaitsAtPrompt prompt.Key m = IsWaiting prompt.Key m
WaitsAtPrompt prompt.Over m = IsClosed m

-- The prompt, if it is one inside tables.
abbrev pub waiting_at : Prompt → Option Prompt
waiting_at prompt.Main = None
waiting_at prompt.Quit = Some prompt.Quit
waiting_at prompt.Again = Some prompt.Again
waiting_at prompt.Key = Some prompt.Key
waiting_at prompt.Over = None

-- The condact at which a frame stands.
abbrev pub condact_at_frame : GameLists → Frame → Option Condact
condact_at_frame g f = condact_at g f.table f.entry f.at

-- Whether a frame is unused.
abbrev pub is_unused : Frame → Bool
is_unused f = (f.table == 0) && ((f.entry == 0) && ((f.at == 0) && not f.acted))

-- Whether a frame follows its rules, where n frames are used from it on: each of these is of a table that may be open
-- there; all but the last are at a PROCESS, and the last is at this condact; an unused frame is 0.
abbrev pub frame_stands : GameLists → ℕ → Option ℕ → ℕ → Frame → Bool
frame_stands g code caller n f =
    if n == 0 then is_unused f
    else may_open caller f.table && has_code (if n == 1 then code else PROCESS) (condact_at_frame g f)

-- The depth of the first frame that breaks a rule, counted from d on, where n of the frames are used; each PROCESS
-- calls the next frame's table.
unfoldable pub first_frame_fault : GameLists → ℕ → Option ℕ → ℕ → ℕ → List Frame → Option ℕ
first_frame_fault g code caller n d [] = None
first_frame_fault g code caller n d (f ∷ fs) =
    if frame_stands g code caller n f
    then first_frame_fault g code (Some (parameter_of (condact_at_frame g f))) (n - 1) (suc d) fs else Some d

-- Whether there is a table, and it is this one.
abbrev pub is_that_table : Option ℕ → ℕ → Bool
is_that_table o t = option_map_or (λ u. t == u) o false

-- Whether an open loop follows its rules: it is at a DOALL of its level's table; place and last object are the game's.
abbrev pub loop_stands : GameLists → Frames → OpenLoop → Bool
loop_stands g k l =
    nat_lt l.level k.count && (is_that_table (option_map (λ f. f.table) (slice_get k.rows l.level)) l.table
    && (has_code DOALL (condact_at g l.table l.entry l.at)
    && (is_place (length g.locations) l.place && nat_lt l.last (length g.objects))))

-- The depth of an open loop that breaks a rule: 11, after all frames.
abbrev pub loop_fault : GameLists → Frames → Option OpenLoop → Option ℕ
loop_fault g k o = if option_map_or (loop_stands g k) o true then None else Some MOST_FRAMES

-- The first fault of what is kept of a machine that waits at a condact with this code, or where no table is open.
abbrev pub fault_at : GameLists → Option ℕ → Frames → Option ℕ
fault_at g code k =
    if count_fits code k.count
    then option_or (first_frame_fault g (unwrap_or code 0) None k.count 0 k.rows) (loop_fault g k k.turning) else Some 0

-- The least depth at which what is kept of a machine that waits at this prompt breaks a rule: that of a frame, 11 for
-- the loop, or 0 for the number of frames; none where it follows them all.
abbrev pub frames_fault : GameLists → Prompt → Frames → Option ℕ
frames_fault g p k = fault_at g (waiting_code p) k
