use Rattle.std.proofs.Common.{◌≡◌, ◌-◌, ◌++◌, [], length, replicate}
use Rattle.paw_source.proofs.exits.fill.Given as goal

abbrev pub invariant-loop-alloc : goal.invariant-loop-alloc
invariant-loop-alloc l = l.exits.items ++ replicate (l.count - length l.exits.items) [] ≡ l.fn.exits.items ++ replicate (l.count - length l.fn.exits.items) []

abbrev pub decreases-loop-alloc : goal.decreases-loop-alloc
decreases-loop-alloc l = l.count - length l.exits.items
