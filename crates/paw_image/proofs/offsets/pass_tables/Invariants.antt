use Rattle.std.proofs.Common.{◌≡◌, ◌-◌, ◌++◌, length}
use Rattle.std.specs.List.{AllByRecursion}
use Rattle.paw_image.specs.inner.Milestones.{IsEnd, HasMilestones}
use Rattle.paw_image.specs.Damage.{each, after_table}
use Rattle.paw_image.specs.inner.Orders.{IsOrder}
use Rattle.paw_image.specs.inner.Offsets.{entries_of, tables_begin}
use Rattle.paw_image.proofs.offsets.pass_tables.Given as goal

abbrev pub invariant-loop : goal.invariant-loop
invariant-loop l = record {
  left : each (after_table l.rules) (l.count - l.counter) l.rest ≡ each (after_table l.rules) l.count l.bytes;
  goes_on : entries_of l.tables.items ++ tables_begin l.rules (length l.all) (l.count - l.counter) l.rest ≡ tables_begin l.rules (length l.all) l.count l.bytes;
  order : AllByRecursion (λ t. IsOrder l.all t.entries.items t.order) l.tables.items;
  end : IsEnd l.all l.bytes → IsEnd l.all l.rest;
  marked : IsEnd l.all l.bytes → AllByRecursion (HasMilestones l.all) l.tables.items;
}
