use Rattle.std.proofs.Common.{◌≡◌, ◌-◌, ◌*◌, ◌≤◌, ◌++◌, length}
use Rattle.paw_image.specs.inner.Milestones.{IsEnd, EntriesMilestones}
use Rattle.paw_image.specs.Damage.{each, after_entry}
use Rattle.paw_image.specs.inner.Offsets.{begins}
use Rattle.paw_image.proofs.milestones.pass_entries.Given as goal

abbrev pub invariant-loop : goal.invariant-loop
invariant-loop l = record {
  left : each (after_entry l.rules) (l.count - l.counter) l.rest ≡ each (after_entry l.rules) l.count l.bytes;
  goes_on : l.offsets.items ++ begins (after_entry l.rules) (length l.all) (l.count - l.counter) l.rest
      ≡ begins (after_entry l.rules) (length l.all) l.count l.bytes;
  many : length l.offsets.items ≡ l.counter;
  firsts : length l.firsts.items ≡ l.counter;
  few : length l.milestones.items ≤ l.counter * 31;
  end : IsEnd l.all l.bytes → IsEnd l.all l.rest;
  marked : IsEnd l.all l.bytes → EntriesMilestones l.all l.offsets.items l.firsts.items l.milestones.items;
}
