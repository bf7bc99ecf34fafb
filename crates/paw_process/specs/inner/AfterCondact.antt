-- How reading goes on where the machine doesn't hold the innermost frame yet.
use Rattle.std.specs.Prelude.{ℕ, ◌+◌, ◌<◌, Bool, List, ◌∷◌, Option, Some, None}
use Rattle.std.specs.Fn.{Shared}
use Rattle.paw_base.specs.declared.limits.TheConstants.{ENTRY_LIMIT}
use Rattle.paw_game.specs.declared.cursor.CondactCursor.{CondactCursor}
use Rattle.paw_game.specs.Game.{GameLists}
use Rattle.paw_routines.specs.declared.routines.Routines.{Routines}
use Rattle.paw_effects.specs.Story.{Story}
use Rattle.paw_reading.specs.declared.frames.Frame.{Frame}
use Rattle.paw_reading.specs.Run.{Run}
use Rattle.paw_reading.specs.Reading.{Out}
use Rattle.paw_process.specs.inner.OpenTables.{OpenTables}
use Rattle.paw_process.specs.inner.OpenTables.{below}
use Rattle.paw_process.specs.inner.Meaning.{InStories, Held, going_in}
use Rattle.paw_process.specs.inner.Moves.{ReadsTable}
use Rattle.paw_process.specs.inner.Steps.{MayReadNext, IsAfterReading}
use Rattle.paw_process.specs.inner.Work.{IsNoFurther}
use Rattle.paw_process.specs.declared.Turned.{Turned}
use Rattle.paw_process.specs.declared.after_condact.AfterCondact.{AfterCondact}
use Rattle.paw_process.specs.declared.after_condact.AfterCondact.TheVariants as after_condact

-- The machine with this frame in the place of the innermost one.
abbrev pub with_frame : Frame → OpenTables → OpenTables
with_frame f m = record m { frames = f ∷ below m.frames }

-- The frame of a cursor, with an action carried out or not.
abbrev pub frame_of : CondactCursor → Bool → Frame
frame_of cursor acted = record { table = cursor.table; entry = cursor.entry; at = cursor.at; acted = acted }

-- The machine with the frame at which reading goes on after a condact of this one.
abbrev pub moved_on : Frame → AfterCondact → OpenTables → OpenTables
moved_on f (after_condact.Next acted) m = with_frame (record f { at = f.at + 1; acted = acted }) m
moved_on f after_condact.NextEntry m = with_frame (record f { entry = f.entry + 1; at = 0 }) m
moved_on f (after_condact.Moved t) m = m

-- Why the machine has stopped, if it has.
abbrev pub stop_after_condact : AfterCondact → Option Turned
stop_after_condact (after_condact.Next acted) = None
stop_after_condact after_condact.NextEntry = None
stop_after_condact (after_condact.Moved t) = t

-- The machine with the frame that was reached, unless it has stopped.
abbrev pub held_at : Option Turned → Frame → OpenTables → OpenTables
held_at None f m = with_frame f m
held_at (Some t) f m = m

-- A frame that was reached stands before an entry, or in one.
abbrev pub ReachesTable : Option Turned → Frame → Type 0
ReachesTable None f = 0 < f.at → f.entry < ENTRY_LIMIT
ReachesTable (Some t) f = Unit {0}

-- Reads on in the innermost table at this frame, above these.
abbrev pub going_at : Story → List Frame → Frame → Run → Out
going_at g fs f = going_in g (f ∷ fs)

-- Whatever reading as y says leads to from what stands now, reading as x says leads to from what stood at first.
abbrev pub LeadsOn : Story → (Run → Out) → Held → (Run → Out) → Held → Type 0
LeadsOn g x first y now = (t : Option Turned) (new : Held) → ReadsTable g y now t new → ReadsTable g x first t new

-- The machine has read on in its innermost table from one frame, where it began, to another, and may read on there in
-- this way: at the frame (`going_at`), or at the condact of an entry that matches (`reading_at`).
pub record IsInTable {F : Type 0} (calls : Shared F (ℕ × (ℕ × Unit {0})) ℕ) (routines : Routines F) (g : GameLists)
    (start : Frame) (first : Held) (reading : Story → List Frame → Frame → Run → Out) (f : Frame) (now : Held)
    : Type 0 where
  pub leads : InStories calls routines g (λ s.
      LeadsOn s (going_at s (below first.machine.frames) start) first (reading s (below now.machine.frames) f) now)
  pub may : MayReadNext calls routines g now.machine now.surroundings.world
  pub after : IsAfterReading g first now
  pub further : IsNoFurther (with_frame start first.machine) (with_frame f now.machine)
