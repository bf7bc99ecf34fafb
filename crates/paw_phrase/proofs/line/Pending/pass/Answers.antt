use Rattle.paw_phrase.proofs.Ranges.{slice_range-drop}
use Rattle.paw_phrase.proofs.line.Pending.pass.Goals as goal

pub returns : goal.returns
returns c =
    let i = c.self.inside in
    let within = rw (← c.self.view_is) at c.requires.within in
    record { value = rw (← c.self.view_is, slice_range-drop i.line i.from i.to c.args.count within) }
