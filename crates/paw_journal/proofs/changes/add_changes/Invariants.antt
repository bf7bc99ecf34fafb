use Rattle.std.proofs.Common.{◌≤◌, ◌*◌}
use Rattle.std.specs.Prelude.{vec_capacity}
use Rattle.paw_journal.specs.declared.changes.TheConstants.{STRETCH}
use Rattle.paw_journal.specs.inner.Writes.{ChangesTo}
use Rattle.paw_journal.proofs.changes.add_changes.Given as goal

abbrev pub invariant-loop-stretch : goal.invariant-loop-stretch
invariant-loop-stretch l = record {
  made : ChangesTo l.old l.new (l.stretch * STRETCH) l.records.items;
  capacity : vec_capacity l.initial.records ≤ vec_capacity l.records;
}
