use Rattle.std.proofs.Common.{arith}
use Rattle.paw_world.proofs.Bits.{removes}
use Rattle.paw_world.proofs.set.ObjectSet.remove.Goals as goal

pub returns : goal.returns
returns c = record { removes = rw (← c.self.view_is) (removes c.self.inside.words c.args.o c.self.told (omega arith)) }
