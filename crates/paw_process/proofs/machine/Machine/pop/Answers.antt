use Rattle.std.proofs.Common.{arith}
use Rattle.paw_process.proofs.OpenFrames.{popped}
use Rattle.paw_process.proofs.machine.Machine.pop.Goals as goal

pub returns : goal.returns
returns c = record { value = popped _ c.self.inside.frames c.self.inside.count _ _ _ _ c.self.view_is c.requires.some (omega arith) }
