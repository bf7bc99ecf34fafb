use Rattle.std.proofs.Common.{◌≡◌, ◌+◌, drop}
use Rattle.paw_state.specs.inner.Faults.{first_not, is_zero}
use Rattle.paw_state.proofs.checks.all_zero.Given as goal

-- The bytes so far are 0.
abbrev pub invariant-loop-i : goal.invariant-loop-i
invariant-loop-i l = first_not is_zero (l.at + l.i) (drop l.i l.bytes) ≡ first_not is_zero l.at l.bytes
