use Rattle.std.proofs.Common.{arith}
use Rattle.paw_world.proofs.Bits.{inserts}
use Rattle.paw_world.proofs.set.ObjectSet.insert.Goals as goal

pub returns : goal.returns
returns c = record { inserts = rw (← c.self.view_is) (inserts c.self.inside.words c.args.o c.self.told (omega arith)) }
