use Rattle.paw_stage.proofs.LineParts.{range_taken}
use Rattle.paw_stage.proofs.ahead.Ahead.take.Goals as goal

pub returns : goal.returns
returns c =
    let i = c.self.inside in
    let within = rw (← c.self.view_is) at c.requires.within in
    record { rest = rw (← c.self.view_is) (range_taken i.buffer i.from i.to c.args.count within) }
