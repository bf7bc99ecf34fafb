use Rattle.std.proofs.Common.{arith, rules}
use Rattle.paw_state.specs.inner.Faults.{is_zero}
use Rattle.paw_state.proofs.Scans.{stops, goes_on, at_end}
use Rattle.paw_state.proofs.checks.all_zero.Goals as goal

pub returns-in_err-rule : goal.returns-in_err-rule
returns-in_err-rule c =
    let h = stops is_zero c.args.at c.loop-i.i _ c.args.bytes.now c.loop-i-test.true c.loop-i.invariant c.in_err-rule.ensures.value in
    record { value = rw (← h) (search rules) }

pub loop-i-preserved : goal.loop-i-preserved
loop-i-preserved c =
    goes_on is_zero c.args.at c.loop-i.i c.args.bytes.now (omega arith) c.loop-i.invariant c.in_ok-rule.ensures.value

pub returns : goal.returns
returns c = record { value = at_end is_zero c.args.at c.loop-i.i c.args.bytes.now (omega arith) c.loop-i.invariant }
