use Rattle.std.proofs.Common.{◌≡◌, length}
use Rattle.paw_check.specs.inner.Levels.{HoldsCosts}
use Rattle.paw_check.specs.inner.Own.{own_in}
use Rattle.paw_check.proofs.costs.costs.Given as goal

abbrev pub invariant-loop : goal.invariant-loop
invariant-loop l = record {
  long : length l.rows.items ≡ length l.parts.tables;
  costs : HoldsCosts l.parts (own_in l.own) l.changing l.counter l.rows.items;
}
