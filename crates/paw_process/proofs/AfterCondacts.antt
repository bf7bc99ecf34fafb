-- Reading on in a table, condact by condact and entry by entry.
use Rattle.std.proofs.Common.{◌≡◌, ℕ, ◌<◌, ◌≤◌, ◌+◌, List, ◌∷◌, Option, Some, None, refl, sym, ap, ◌∙◌, suc, length, arith}
use Rattle.std.specs.Prelude.{IfSome, IfNone}
use Rattle.std.specs.Option.{option_map}
use Rattle.std.specs.Fn.{Shared}
use Rattle.paw_base.specs.Bytes.{RoutineAnswers}
use Rattle.paw_base.specs.declared.limits.TheConstants.{ENTRY_LIMIT}
use Rattle.paw_base.specs.declared.flags.TheConstants.{VERB_FLAG, NOUN_FLAG}
use Rattle.paw_game.specs.declared.cursor.CondactCursor.{CondactCursor}
use Rattle.paw_game.specs.Game.{GameLists}
use Rattle.paw_game.specs.inner.Tables.{match_at}
use Rattle.paw_world.specs.World.{World, flag}
use Rattle.paw_routines.specs.declared.routines.Routines.{Routines}
use Rattle.paw_routines.specs.Routines.{AreAnswersOf}
use Rattle.paw_effects.specs.Story.{Story, story_of}
use Rattle.paw_reading.specs.declared.frames.Frame.{Frame}
use Rattle.paw_reading.specs.Run.{Run}
use Rattle.paw_reading.specs.Reading.{Out}
use Rattle.paw_process.specs.inner.OpenTables.{OpenTables}
use Rattle.paw_process.specs.inner.OpenTables.{below, ReadsNone}
use Rattle.paw_process.specs.inner.Meaning.{Held, run_held}
use Rattle.paw_process.specs.inner.Moves.{ReadsTable, reading_at, Enters, EntersNone}
use Rattle.paw_process.specs.inner.AfterCondact.{with_frame, frame_of, moved_on, going_at, IsInTable}
use Rattle.paw_process.specs.inner.Steps.{IsReady, MayReadNext, HasMoved, IsAfterReading, HasStepped}
use Rattle.paw_process.specs.inner.Work.{machine_work, frames_work, loop_work, Progress, falls, stays}
use Rattle.paw_process.specs.declared.Turned.{Turned}
use Rattle.paw_process.specs.declared.after_condact.AfterCondact.{AfterCondact}
use Rattle.paw_process.specs.declared.after_condact.AfterCondact.TheVariants as after_condact
use Rattle.paw_process.proofs.Readings.{reads_on, reads_from, reads_moved}
use Rattle.paw_process.proofs.Steps.{going_inside, going_left, going_match}
use Rattle.paw_process.proofs.Stops.{length_below}
use Rattle.paw_process.proofs.Works.{match_no_further, progress_on, no_further, no_further_on}

-- What is read doesn't change with the innermost frame.
pub moved_on_none : (f : Frame) (o : AfterCondact) (old new : OpenTables) → ReadsNone old new → ReadsNone old (moved_on f o new)
moved_on_none f (after_condact.Next acted) old new none = record { left = none.left; steps = none.steps }
moved_on_none f after_condact.NextEntry old new none = record { left = none.left; steps = none.steps }
moved_on_none f (after_condact.Moved t) old new none = none

-- A machine may read on with another frame in the place of the innermost.
pub ready_at_frame : (g : GameLists) (m : OpenTables) (w : World) (f : Frame) → IsReady g m w
    → (0 < f.at → f.entry < ENTRY_LIMIT) → IsReady g (with_frame f m) w
ready_at_frame g m w f ready entry =
    let tables = ready.reading.tables in
    let size : suc (length (below m.frames)) ≡ length m.frames = length_below m.frames tables.some in
    record {
      reading = record {
        tables = record {
          some = omega arith;
          depth = omega (arith, size, tables.depth);
          top = entry;
          below = tables.below;
          loop = rw size tables.loop;
        };
        waiting = ready.reading.waiting;
      };
      game = ready.game;
    }

pub stepped_at_frame : (g : GameLists) (old new : Held) (f : Frame) → HasStepped g old None new → (0 < f.at → f.entry < ENTRY_LIMIT)
    → HasStepped g old None (record new { machine = with_frame f new.machine })
stepped_at_frame g old new f h entry =
    let ready = ready_at_frame g new.machine new.surroundings.world f (record { reading = h.stands; game = h.step.game }) entry in
    record {
      stands = ready.reading;
      step = record { game = h.step.game; draws = h.step.draws; most = h.step.most };
    }

pub at_frame_same : (m : OpenTables) (f : Frame) → m.frames ≡ f ∷ below m.frames → with_frame f m ≡ m
at_frame_same m f e = ap (λ (fs : List Frame). record m { frames = fs }) (sym e)

-- What was read before, and then a step.
pub stepped_on : (g : GameLists) (first now : Held) (t : Option Turned) (new : Held) → IsAfterReading g first now
    → HasStepped g now t new → HasStepped g first t new
stepped_on g first now t new h k = record {
  stands = k.stands;
  step = record { game = k.step.game; draws = omega (arith, h.draws, k.step.draws); most = k.step.most ∙ h.most };
}

-- The entry that matches next.
pub enters_match : (g : GameLists) (w : World) (f : Frame) (o : Option CondactCursor) → f.at ≡ 0
    → option_map (λ c. c.entry) o ≡ match_at g f.table f.entry (flag w VERB_FLAG) (flag w NOUN_FLAG)
    → IfSome o (λ c. c.table ≡ f.table)
    → IfSome o (λ c. c.at ≡ 0) → IfSome o (λ c. f.entry ≤ c.entry) → IfSome o (λ c. c.entry < ENTRY_LIMIT)
    → IfSome o (λ c. Enters g w f (frame_of c f.acted)) × IfNone o (EntersNone g w f)
enters_match g w f None zero found table start reached small = (
  tt,
  λ X fs r is. going_left (story_of g X) fs f r zero (rw (← is) at (sym found)),
)
enters_match g w f (Some c) zero found table start reached small = (
  record {
    entry = small;
    low = reached;
    goes = λ X fs r is. rw (table, start) (going_match (story_of g X) fs f r c.entry zero (rw (← is) at (sym found)));
  },
  tt,
)

-- Then the table is left.
pub left_on : (g : GameLists) (m : OpenTables) (f : Frame) (w : World) (t : Option Turned) (new : OpenTables) (w' : World)
    → HasMoved g m w t new w' → machine_work new ≤ frames_work (below m.frames) + loop_work m.turning → Progress (with_frame f m) new
left_on g m f w t new w' moved less = falls moved.left.left (omega arith)

module _ {F : Type 0} (calls : Shared F (ℕ × (ℕ × Unit {0})) ℕ) (routines : Routines F) (g : GameLists) where
  -- Where reading on begins.
  pub table_starts : (f : Frame) (h : Held) → MayReadNext calls routines g h.machine h.surroundings.world
      → IsInTable calls routines g f h going_at f h
  table_starts f h may = record {
    leads = λ X answers t new k. k;
    may = may;
    after = record { game = may.ready.game; draws = omega arith; most = refl };
    further = stays refl (omega arith);
  }

  -- In an entry that matches.
  pub entry_starts : (f : Frame) (h : Held) (e : Frame) → MayReadNext calls routines g h.machine h.surroundings.world
      → Enters g h.surroundings.world f e → IsInTable calls routines g f h reading_at e h
  entry_starts f h e may enters = record {
    leads = λ X answers t new k.
        let s = story_of g X in
        let fs = below h.machine.frames in
        reads_from s (going_at s fs f) (reading_at s fs e) h t new (λ r. enters.goes X fs (run_held h r) refl) k;
    may = may;
    after = record { game = may.ready.game; draws = omega arith; most = refl };
    further = match_no_further h.machine f e enters.low;
  }

  -- One reading after another, in the same table.
  pub reading_goes_on : (start : Frame) (first : Held) (f : Frame) (mid : Held) (reading : Story → List Frame → Frame → Run → Out) (e : Frame) (now : Held)
      → IsInTable calls routines g start first going_at f mid → IsInTable calls routines g f mid reading e now
      → IsInTable calls routines g start first reading e now
  reading_goes_on start first f mid reading e now h k = record {
    leads = λ X answers t new reads. h.leads X answers t new (k.leads X answers t new reads);
    may = k.may;
    after = record { game = k.after.game; draws = omega (arith, h.after.draws, k.after.draws); most = k.after.most ∙ h.after.most };
    further = no_further_on (with_frame start first.machine) (with_frame f mid.machine) (with_frame e now.machine) h.further k.further;
  }

  -- After a condact reading goes on at another frame.
  pub table_goes_on : (start : Frame) (first : Held) (f : Frame) (now : Held) (next : Frame) (new : Held)
      → IsInTable calls routines g start first reading_at f now
      → ((X : RoutineAnswers) → AreAnswersOf calls routines X
      → ReadsTable (story_of g X) (reading_at (story_of g X) (below now.machine.frames) f) now None (record new { machine = with_frame next new.machine }))
      → HasStepped g now None new → Progress (with_frame f now.machine) (with_frame next new.machine)
      → IsInTable calls routines g start first going_at next new
  table_goes_on start first f now next new h reads stepped progress = record {
    leads = λ X answers t last k.
        let s = story_of g X in
        let mid : Held = record new { machine = with_frame next new.machine } in
        h.leads X answers t last
        (reads_on s (reading_at s (below now.machine.frames) f) now mid t last (reads X answers)
        (reads_moved s (going_at s (below new.machine.frames) next) mid new.machine.frames t last k));
    may = record {
      ready = record { reading = stepped.stands; game = stepped.step.game };
      answers = h.may.answers;
      draws = omega (arith, stepped.step.draws, h.may.draws);
    };
    after = record {
      game = stepped.step.game;
      draws = omega (arith, h.after.draws, stepped.step.draws);
      most = stepped.step.most ∙ h.after.most;
    };
    further = no_further (with_frame start first.machine) (with_frame next new.machine)
        (progress_on (with_frame start first.machine) (with_frame f now.machine) (with_frame next new.machine) h.further progress);
  }

  -- Within its entry reading goes on at the next condact.
  pub entry_goes_on : (start : Frame) (first : Held) (next : Frame) (new : Held) → IsInTable calls routines g start first going_at next new
      → 0 < next.at → IsInTable calls routines g start first reading_at next new
  entry_goes_on start first next new h within = record {
    leads = λ X answers t last k.
        let s = story_of g X in
        let fs = below new.machine.frames in
        h.leads X answers t last
        (reads_from s (going_at s fs next) (reading_at s fs next) new t last (λ r. going_inside s fs next (run_held new r) within) k);
    may = h.may;
    after = h.after;
    further = h.further;
  }
