use Rattle.std.proofs.Common.{◌+◌, ◌*◌, ◌<◌, refl, sym, ap, subst, arith}
use Rattle.paw_base.specs.declared.limits.TheConstants.{ENTRY_LIMIT}
use Rattle.paw_base.specs.inner.Steps.{KeptSteps}
use Rattle.paw_effects.specs.Story.{story_of}
use Rattle.paw_reading.specs.declared.frames.Frame.{Frame}
use Rattle.paw_process.proofs.Readings.{reads_nothing}
use Rattle.paw_process.proofs.AfterCondacts.{stepped_on, stepped_at_frame, left_on}
use Rattle.paw_process.proofs.AfterCondacts.{table_starts, entry_starts, reading_goes_on, table_goes_on, entry_goes_on}
use Rattle.paw_process.proofs.Stops.{goes_from}
use Rattle.paw_process.proofs.Works.{progresses, progress_on}
use Rattle.paw_process.specs.inner.Meaning.{having, run_held}
use Rattle.paw_process.specs.inner.Moves.{reading_at}
use Rattle.paw_process.specs.inner.AfterCondact.{with_frame, frame_of, going_at, IsInTable}
use Rattle.paw_process.specs.inner.OpenTables.{below}
use Rattle.paw_process.specs.inner.Work.{machine_work}
use Rattle.paw_process.proofs.step.StoryReader.read_on.Goals as goal

pub entries-init : goal.entries-init
entries-init g c = record {
  table = table_starts g.F.Fn c.args.self.now.routines.now (g.T.Tables.game c.args.self.now.tables.now) c.args.f.now
      (having c.args.surroundings.now c.args.machine.now) c.requires.may;
  entry = c.requires.entry;
}

pub enter-requires : goal.enter-requires
enter-requires g c = record { entry = c.entries.invariant.entry }

pub leave_level-turned-requires : goal.leave_level-turned-requires
leave_level-turned-requires g c = record { ready = c.entries.invariant.table.may.ready }

pub returns-in_default-clause-meaning : goal.returns-in_default-clause-meaning
returns-in_default-clause-meaning g c X answers =
    let game = story_of (g.T.Tables.game c.args.self.now.tables.now) X in
    let fs = below c.entries.machine.frames in
    let now = having c.entries.surroundings c.entries.machine in
    let left = c.leave_level-turned in
    let new = having (record c.entries.surroundings { world = left.new.world }) left.new.machine in
    let none = left.ensures.after.left in
    rw c.take_top.ensures.held
    (c.entries.invariant.table.leads X answers left.result new
    (reads_nothing game (going_at game fs c.entries.f) now left.result new (record { left = none.left; steps = none.steps })
    (λ r. goes_from game _ _ left.result left.new.machine.frames (run_held new r)
    (c.in_default.ensures.none X fs (run_held now r) refl)
    (left.ensures.meaning X (run_held now r)))))

pub returns-in_default-clause-progress : goal.returns-in_default-clause-progress
returns-in_default-clause-progress g c none =
    let left = c.leave_level-turned in
    rw c.take_top.ensures.held
    (progress_on (with_frame c.args.f.now c.args.machine.now) (with_frame c.entries.f c.entries.machine) left.new.machine
    c.entries.invariant.table.further
    (left_on (g.T.Tables.game c.args.self.now.tables.now) c.entries.machine c.entries.f c.entries.surroundings.world left.result left.new.machine
    left.new.world left.ensures.after left.ensures.falls))

pub returns-in_default-clause-after : goal.returns-in_default-clause-after
returns-in_default-clause-after g c =
    let left = c.leave_level-turned in
    let now = having c.entries.surroundings c.entries.machine in
    let new = having (record c.entries.surroundings { world = left.new.world }) left.new.machine in
    let moved = left.ensures.after in
    stepped_on (g.T.Tables.game c.args.self.now.tables.now) (having c.args.surroundings.now c.args.machine.now) now left.result new
    c.entries.invariant.table.after
    (record {
      stands = moved.stands;
      step = record {
        game = moved.game;
        draws = omega (arith, moved.draws, moved.left.left);
        most = ap (λ (k : KeptSteps). k.most) moved.left.steps;
      };
    })

pub condacts-init : goal.condacts-init
condacts-init g c =
    let entered = c.in-Some.ensures.some in
    record {
      inside = entry_starts g.F.Fn c.args.self.now.routines.now (g.T.Tables.game c.args.self.now.tables.now) c.entries.f
          (having c.entries.surroundings c.entries.machine) (frame_of c.in-Some.start c.entries.f.acted) c.entries.invariant.table.may entered;
      entry = entered.entry;
      stands = c.in-Some.ensures.stands;
    }

pub read_at_cursor-requires-clause-stands : goal.read_at_cursor-requires-clause-stands
read_at_cursor-requires-clause-stands g c = c.condacts.invariant.stands

pub read_at_cursor-requires-clause-may : goal.read_at_cursor-requires-clause-may
read_at_cursor-requires-clause-may g c = c.condacts.invariant.inside.may

pub read_at_cursor-requires-clause-entry : goal.read_at_cursor-requires-clause-entry
read_at_cursor-requires-clause-entry g c = c.condacts.invariant.entry

pub condacts-smaller : goal.condacts-smaller
condacts-smaller g c =
    let old = with_frame (frame_of c.condacts.cursor c.condacts.acted) c.condacts.machine in
    let new = c.read_at_cursor.new.machine in
    let next : Frame = record (frame_of c.condacts.cursor c.in-Next.by_now) { at = c.condacts.cursor.at + 1 } in
    let stepped = stepped_at_frame (g.T.Tables.game c.args.self.now.tables.now) (having c.condacts.surroundings c.condacts.machine)
    (having c.read_at_cursor.new.surroundings new) next c.in-Next.ensures.after (λ h. c.condacts.invariant.entry) in
    subst (λ (f : Frame). new.left * 134217728 + machine_work (with_frame f new) < old.left * 134217728 + machine_work old)
    (sym (c.in-Next.ensures.moves c.in-Next.by_now refl))
    (progresses old (with_frame next new) stepped.stands (c.in-Next.ensures.progress refl))

pub condacts-preserved : goal.condacts-preserved
condacts-preserved g c =
    let routines = c.args.self.now.routines.now in
    let game = g.T.Tables.game c.args.self.now.tables.now in
    let loop = c.condacts in
    let first = having c.entries.surroundings c.entries.machine in
    let now = having loop.surroundings loop.machine in
    let new = having c.read_at_cursor.new.surroundings c.read_at_cursor.new.machine in
    let next : Frame = record (frame_of loop.cursor c.in-Next.by_now) { at = loop.cursor.at + 1 } in
    let moves = sym (c.in-Next.ensures.moves c.in-Next.by_now refl) in
    record {
      inside = subst (λ (f : Frame). IsInTable g.F.Fn routines game c.entries.f first reading_at f new) moves
          (entry_goes_on g.F.Fn routines game c.entries.f first next new
          (table_goes_on g.F.Fn routines game c.entries.f first (frame_of loop.cursor loop.acted) now next new loop.invariant.inside
          c.in-Next.ensures.meaning c.in-Next.ensures.after (c.in-Next.ensures.progress refl)) (omega arith));
      entry = subst (λ (f : Frame). f.entry < ENTRY_LIMIT) moves loop.invariant.entry;
      stands = c.in-Next.ensures.stands;
    }

pub next_entry-requires : goal.next_entry-requires
next_entry-requires g c = record { entry = rw c.frame_at-here.ensures.value c.condacts.invariant.entry }

pub entries-smaller : goal.entries-smaller
entries-smaller g c =
    let old = with_frame c.entries.f c.entries.machine in
    let here = with_frame (frame_of c.condacts.cursor c.condacts.acted) c.condacts.machine in
    let new = c.read_at_cursor.new.machine in
    let next : Frame = record (frame_of c.condacts.cursor c.condacts.acted) { entry = c.condacts.cursor.entry + 1; at = 0 } in
    let stepped = stepped_at_frame (g.T.Tables.game c.args.self.now.tables.now) (having c.condacts.surroundings c.condacts.machine)
    (having c.read_at_cursor.new.surroundings new) next c.in-NextEntry.ensures.after (λ h. omega arith) in
    rw (c.next_entry.ensures.value, c.frame_at-here.ensures.value)
    (progresses old (with_frame next new) stepped.stands
    (progress_on old here (with_frame next new) c.condacts.invariant.inside.further (c.in-NextEntry.ensures.progress refl)))

pub entries-preserved : goal.entries-preserved
entries-preserved g c =
    let routines = c.args.self.now.routines.now in
    let game = g.T.Tables.game c.args.self.now.tables.now in
    let loop = c.condacts in
    let first = having c.args.surroundings.now c.args.machine.now in
    let mid = having c.entries.surroundings c.entries.machine in
    let now = having loop.surroundings loop.machine in
    let new = having c.read_at_cursor.new.surroundings c.read_at_cursor.new.machine in
    let next : Frame = record (frame_of loop.cursor loop.acted) { entry = loop.cursor.entry + 1; at = 0 } in
    rw (c.next_entry.ensures.value, c.frame_at-here.ensures.value)
    (record {
      table = reading_goes_on g.F.Fn routines game c.args.f.now first c.entries.f mid going_at next new c.entries.invariant.table
          (table_goes_on g.F.Fn routines game c.entries.f mid (frame_of loop.cursor loop.acted) now next new loop.invariant.inside
          c.in-NextEntry.ensures.meaning c.in-NextEntry.ensures.after (c.in-NextEntry.ensures.progress refl));
      entry = λ h. omega arith;
    })

pub take_top-requires-in-Moved : goal.take_top-requires-in-Moved
take_top-requires-in-Moved g c = record { stands = c.in-Moved.ensures.after.stands }

pub returns-in-Moved-clause-meaning : goal.returns-in-Moved-clause-meaning
returns-in-Moved-clause-meaning g c X answers =
    let new = having c.read_at_cursor.new.surroundings c.read_at_cursor.new.machine in
    rw c.take_top-in-Moved.ensures.held
    (c.entries.invariant.table.leads X answers c.in-Moved.turned new
    (c.condacts.invariant.inside.leads X answers c.in-Moved.turned new (c.in-Moved.ensures.meaning X answers)))

pub returns-in-Moved-clause-progress : goal.returns-in-Moved-clause-progress
returns-in-Moved-clause-progress g c none =
    let mid = with_frame c.entries.f c.entries.machine in
    let new = c.read_at_cursor.new.machine in
    rw c.take_top-in-Moved.ensures.held
    (progress_on (with_frame c.args.f.now c.args.machine.now) mid new c.entries.invariant.table.further
    (progress_on mid (with_frame (frame_of c.condacts.cursor c.condacts.acted) c.condacts.machine) new c.condacts.invariant.inside.further
    (c.in-Moved.ensures.progress none)))

pub returns-in-Moved-clause-after : goal.returns-in-Moved-clause-after
returns-in-Moved-clause-after g c =
    let game = g.T.Tables.game c.args.self.now.tables.now in
    let mid = having c.entries.surroundings c.entries.machine in
    let now = having c.condacts.surroundings c.condacts.machine in
    let new = having c.read_at_cursor.new.surroundings c.read_at_cursor.new.machine in
    stepped_on game (having c.args.surroundings.now c.args.machine.now) mid c.in-Moved.turned new c.entries.invariant.table.after
    (stepped_on game mid now c.in-Moved.turned new c.condacts.invariant.inside.after c.in-Moved.ensures.after)
