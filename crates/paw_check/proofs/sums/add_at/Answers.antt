use Rattle.std.proofs.Common.{arith}
use Rattle.paw_check.proofs.Rows.{holds_added}
use Rattle.paw_check.proofs.sums.add_at.Goals as goal

pub returns : goal.returns
returns c = record {
  value = λ f k is so. holds_added f k _ c.args.verb c.saturating_add.result c.args.taken (omega (arith, c.ranges.verb.fits))
      c.saturating_add.ensures is so;
}
