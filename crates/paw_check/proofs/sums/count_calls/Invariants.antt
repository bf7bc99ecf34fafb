use Rattle.std.proofs.Common.{ℕ, ◌+◌, take}
use Rattle.std.specs.Prelude.{count_by}
use Rattle.paw_check.specs.Calls.{is_call_of}
use Rattle.paw_check.specs.inner.Capped.{HoldsCapped}
use Rattle.paw_check.proofs.sums.count_calls.Given as goal

abbrev pub invariant-loop-condact : goal.invariant-loop-condact
invariant-loop-condact l = (f : ℕ → ℕ) → HoldsCapped l.fn.counts f
    → HoldsCapped l.counts (λ u. f u + count_by (is_call_of u) (take l.condact-index l.condacts))
