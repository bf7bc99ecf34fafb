use Rattle.std.proofs.Common.{arith}
use Rattle.paw_process.proofs.OpenFrames.{topped}
use Rattle.paw_process.proofs.machine.Machine.set_top.Goals as goal

pub returns : goal.returns
returns c = record { value = topped _ c.self.inside.frames c.self.inside.count c.args.f _ _ _ _ c.self.view_is c.requires.some (omega arith) }
