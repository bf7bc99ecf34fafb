use Rattle.std.proofs.Common.{length}
use Rattle.paw_stage.proofs.Logs.{laid-take}
use Rattle.paw_stage.proofs.replay.crash_after.Goals as goal

pub crash_attached-requires : goal.crash_attached-requires
crash_attached-requires c = record {
  laid = laid-take c.args.calls.now c.in-Some.n 0 (length c.args.room.now) c.requires.laid;
}
