use Rattle.std.proofs.Common.{arith}
use Rattle.paw_image.proofs.OrderLaws.{runs_at, run_is}
use Rattle.paw_image.proofs.order.run_of.Goals as goal

pub slice_bounds-result-count : goal.slice_bounds-result-count
slice_bounds-result-count c = (runs_at c.args.ranks.now c.args.starts.now c.args.verb c.requires.starts (omega arith)).rise

pub slice_bounds-result-start : goal.slice_bounds-result-start
slice_bounds-result-start c = (runs_at c.args.ranks.now c.args.starts.now c.args.verb c.requires.starts (omega arith)).rise

pub returns : goal.returns
returns c =
    let at = runs_at c.args.ranks.now c.args.starts.now c.args.verb c.requires.starts (omega arith) in
    record { run = run_is c.args.ranks.now c.requires.rises c.args.verb _ _ at.starts at.ends }
