use Rattle.std.proofs.Common.{◌+◌, ◌*◌}
use Rattle.paw_process.specs.inner.Meaning.{having}
use Rattle.paw_process.specs.inner.AfterCondact.{with_frame}
use Rattle.paw_process.specs.inner.OpenTables.{IsReading}
use Rattle.paw_process.specs.inner.Running.{IsRunning}
use Rattle.paw_process.specs.inner.Work.{machine_work}
use Rattle.paw_process.proofs.machine.Machine.run.Given as goal

abbrev pub invariant-loop-turned : goal.invariant-loop-turned
invariant-loop-turned g l = record {
  running : IsRunning g.F.Fn l.routines (g.T.Tables.game l.tables) (having l.initial.surroundings l.initial.self)
      (having l.surroundings (with_frame l.f l.self));
  held : IsReading l.self;
}

abbrev pub decreases-loop-turned : goal.decreases-loop-turned
decreases-loop-turned g l = l.self.left * 134217728 + machine_work (with_frame l.f l.self)
