use Rattle.paw_check.proofs.Rows.{counts_more, counts_all}
use Rattle.paw_check.proofs.sums.count_calls.Goals as goal

pub loop-condact-preserved : goal.loop-condact-preserved
loop-condact-preserved c =
    λ f holds. counts_more f c.args.condacts.now c.loop-condact.condact-index _ c.count_call.new.counts c.loop-condact-test.true
    (c.count_call.ensures.value _ (c.loop-condact.invariant f holds))

pub returns : goal.returns
returns c = record {
  value = λ f holds. counts_all f c.args.condacts.now c.loop-condact.condact-index c.loop-condact.counts
      c.loop-condact-test.false (c.loop-condact.invariant f holds);
}
