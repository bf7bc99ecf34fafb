use Rattle.std.proofs.Common.{◌+◌, ◌*◌, ◌<◌}
use Rattle.paw_base.specs.declared.limits.TheConstants.{ENTRY_LIMIT}
use Rattle.paw_process.specs.inner.Meaning.{having}
use Rattle.paw_process.specs.inner.Moves.{reading_at}
use Rattle.paw_process.specs.inner.AfterCondact.{with_frame, frame_of, going_at, IsInTable}
use Rattle.paw_process.specs.inner.Work.{machine_work}
use Rattle.paw_process.proofs.step.StoryReader.read_on.Given as goal

abbrev pub invariant-entries : goal.invariant-entries
invariant-entries g l = record {
  table : IsInTable g.F.Fn l.self.routines.now (g.T.Tables.game l.self.tables.now) l.initial.f
      (having l.initial.surroundings l.initial.machine) going_at l.f (having l.surroundings l.machine);
  entry : 0 < l.f.at → l.f.entry < ENTRY_LIMIT;
}

abbrev pub decreases-entries : goal.decreases-entries
decreases-entries g l = l.machine.left * 134217728 + machine_work (with_frame l.f l.machine)

abbrev pub invariant-condacts : goal.invariant-condacts
invariant-condacts g l = record {
  inside : IsInTable g.F.Fn l.self.routines.now (g.T.Tables.game l.self.tables.now) l.initial.f
      (having l.initial.surroundings l.initial.machine) reading_at (frame_of l.cursor l.acted) (having l.surroundings l.machine);
  entry : l.cursor.entry < ENTRY_LIMIT;
  stands : g.T.Tables.stands l.self.tables.now l.cursor;
}

abbrev pub decreases-condacts : goal.decreases-condacts
decreases-condacts g l = l.machine.left * 134217728 + machine_work (with_frame (frame_of l.cursor l.acted) l.machine)
