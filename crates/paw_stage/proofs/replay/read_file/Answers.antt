use Rattle.std.proofs.Common.{length}
use Rattle.paw_stage.specs.inner.Done.{fresh, after}
use Rattle.paw_stage.specs.inner.Log.{all_done}
use Rattle.paw_stage.proofs.Sees.{filled}
use Rattle.paw_stage.proofs.replay.read_file.Goals as goal

pub returns : goal.returns
returns c = record {
  read =
      filled (after fresh (all_done c.args.room.now c.args.calls.now)) c.args.name.now c.args.at (length c.args.into.now)
      c.see.result c.see.new.into c.see.ensures.sees c.see.auto.into c.requires.within;
}
