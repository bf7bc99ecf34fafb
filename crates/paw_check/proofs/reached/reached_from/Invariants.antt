use Rattle.std.proofs.Common.{◌≡◌, ◌≤◌, suc}
use Rattle.paw_check.specs.Calls.{called_below}
use Rattle.paw_check.specs.inner.Reached.{levels_from}
use Rattle.paw_check.proofs.ReachedLaws.{Marked}
use Rattle.paw_check.proofs.reached.reached_from.Given as goal

abbrev pub invariant-loop : goal.invariant-loop
invariant-loop l = record {
  deepest : l.deepest.items ≡ called_below l.parts l.from l.counter;
  levels : l.levels ≡ levels_from l.parts l.from l.counter;
  few : l.levels ≤ l.counter;
  marks : Marked l.parts l.from (suc l.counter) l.marks;
}
