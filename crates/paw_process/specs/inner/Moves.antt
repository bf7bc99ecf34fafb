-- What each move of the machine makes of the reading.
use Rattle.std.specs.Prelude.{◌≡◌, ℕ, suc, ◌+◌, ◌<◌, ◌≤◌, ◌++◌, Bool, true, false, List, ◌∷◌, Option, Some, None}
use Rattle.std.specs.Prelude.{length}
use Rattle.paw_base.specs.Bytes.{Lines, RoutineAnswers}
use Rattle.paw_base.specs.declared.limits.TheConstants.{ENTRY_LIMIT}
use Rattle.paw_base.specs.declared.parts.Condact.{Condact}
use Rattle.paw_game.specs.Game.{GameLists}
use Rattle.paw_effects.specs.Story.{Story, story_of}
use Rattle.paw_world.specs.World.{World}
use Rattle.paw_phrase.specs.declared.Found.{Found}
use Rattle.paw_phrase.specs.declared.Found.TheVariants as found
use Rattle.paw_effects.specs.declared.act.Effect.{Effect}
use Rattle.paw_reading.specs.declared.frames.Frame.{Frame}
use Rattle.paw_reading.specs.declared.frames.OpenLoop.{OpenLoop}
use Rattle.paw_reading.specs.Run.{Run, StepRow}
use Rattle.paw_reading.specs.Reading.{Out, Left, next_object_or, over_objects, rest_of_loop, deeper, from_condact}
use Rattle.paw_reading.specs.Reading.{rest_of_entry}
use Rattle.paw_reading.specs.Reading.{after_action, step_at, step_noted, reads_one}
use Rattle.paw_reading.specs.inner.GoingOn.{along}
use Rattle.paw_process.specs.inner.OpenTables.{OpenTables}
use Rattle.paw_process.specs.inner.OpenTables.{HasRead, ReadsStep, IsReading}
use Rattle.paw_process.specs.inner.Meaning.{Held, run_held, with_steps, to_come, going_in, ComesTo, IsStopped}
use Rattle.paw_process.specs.declared.Turned.{Turned}

-- A reading goes on in these frames with this run, or the machine has stopped where it ends.
abbrev pub Continues : Story → Out → Option Turned → List Frame → Run → Type 0
Continues g x None fs r = x ≡ going_in g fs r
Continues g x (Some t) fs r = ComesTo g t fs r x

-- The machine may read on, or is as it is after a stop.
abbrev pub StandsOrStopped : Option Turned → OpenTables → Type 0
StandsOrStopped None m = IsReading m
StandsOrStopped (Some t) m = IsStopped t m

-- The run with this open loop.
abbrev pub with_open_loop : Option OpenLoop → Run → Run
with_open_loop o r = record r { turning = o }

-- The run with this world and this open loop.
abbrev pub looping : World → Option OpenLoop → Run → Run
looping w o r = record r { world = w; turning = o }

-- How the reading ends where the innermost table, above these frames, ends this way: its level's open loop goes on.
abbrev pub loop_resolved : Story → List Frame → Out → Out
loop_resolved g fs x = along g fs (next_object_or (length fs) (rest_of_loop g (deeper g (length fs)) (length fs)) x)

-- Reads on in the innermost table at the entry after this frame's.
abbrev pub next_of : Story → List Frame → Frame → Bool → Run → Out
next_of g fs f = from_condact g (deeper g (length fs)) (length fs) f.table (suc f.entry) 0

-- Reads on in the innermost table at the condact after this frame's.
abbrev pub past_of : Story → List Frame → Frame → Bool → Run → Out
past_of g fs f = from_condact g (deeper g (length fs)) (length fs) f.table f.entry (suc f.at)

-- Reads the condacts of this frame's entry from its condact on.
abbrev pub reading_at : Story → List Frame → Frame → Run → Out
reading_at g fs f r =
    loop_resolved g fs (rest_of_entry g (deeper g (length fs)) (length fs) f.table f.entry f.at f.acted r)

-- Goes on in the innermost table after an action.
abbrev pub acted_at : Story → List Frame → Frame → Effect → Run → Out
acted_at g fs f e r =
    loop_resolved g fs (after_action g (deeper g (length fs)) (length fs) f (next_of g fs f) (past_of g fs f) e r)

-- Lets a loop of the innermost table take the next of the last n objects.
abbrev pub loop_at_frames : Story → List Frame → OpenLoop → ℕ → Run → Out
loop_at_frames g fs l n r =
    along g fs (over_objects g (length fs) (record l { last = 0 })
    (from_condact g (deeper g (length fs)) (length fs) l.table l.entry (suc l.at) true) n r)

-- Reading as x says leads from what stood to what stands now: there are condacts that were read, of which the machine
-- keeps the steps, so that, whatever lines come, the machine goes on to what x is, or has stopped at it.
abbrev pub ReadsTable : Story → (Run → Out) → Held → Option Turned → Held → Type 0
ReadsTable g x old t new =
    (r : Run) → HasRead r.read old.machine → (steps : List StepRow) × HasRead (r.read ++ steps) new.machine
    × ((lines : Lines) →
    Continues g (x (to_come lines (run_held old r))) t new.machine.frames
    (to_come lines (run_held new (with_steps steps r))))

-- From one frame of the innermost table, reading goes on at the condact of another.
pub record Enters (g : GameLists) (w : World) (f e : Frame) : Type 0 where
  pub entry : e.entry < ENTRY_LIMIT
  pub low : f.entry ≤ e.entry
  pub goes : (X : RoutineAnswers) (fs : List Frame) (r : Run) → r.world ≡ w →
      going_in (story_of g X) (f ∷ fs) r ≡ reading_at (story_of g X) fs e r

-- From this frame reading goes on at no condact: the innermost table is left.
abbrev pub EntersNone : GameLists → World → Frame → Type 0
EntersNone g w f =
    (X : RoutineAnswers) (fs : List Frame) (r : Run) → r.world ≡ w →
    going_in (story_of g X) (f ∷ fs) r ≡ loop_resolved (story_of g X) fs (Left f.acted r)

-- Reads one condact of this frame.
abbrev pub one_at : Story → List Frame → Frame → Condact → Run → Out
one_at g fs f c r =
    loop_resolved g fs (reads_one g (deeper g (length fs)) (length fs) f (next_of g fs f) (past_of g fs f) c r)

-- Reading this condact leads from what stood to what stands now: it is noted with yes or no, and so it is in every run.
abbrev pub ReadsOne : Story → List Frame → Frame → Condact → Held → Option Turned → Held → Type 0
ReadsOne g fs f c old t new =
    (passed : Bool) × ReadsStep (step_at f c passed) old.machine new.machine × ((r : Run) →
    Continues g (one_at g fs f c (run_held old r)) t new.machine.frames (step_noted f c passed (run_held new r)))

-- Where reading goes on after QUIT's question: after yes at the next condact, after no past the table, as after DONE.
abbrev pub after_quit : Bool → Frame → Frame
after_quit true f = record f { at = f.at + 1 }
after_quit false f = record { table = f.table; entry = ENTRY_LIMIT; at = 0; acted = true }

-- Where reading goes on after a key: at the next condact, with an action carried out.
abbrev pub after_key : Frame → Frame
after_key f = record f { at = f.at + 1; acted = true }

-- Where reading goes on after PARSE: at the next entry after a sentence, otherwise at the next condact.
abbrev pub after_found : Found → Frame → Frame
after_found found.Sentence f = record { table = f.table; entry = f.entry + 1; at = 0; acted = f.acted }
after_found found.Nothing f = record f { at = f.at + 1 }
after_found found.Empty f = record f { at = f.at + 1 }
