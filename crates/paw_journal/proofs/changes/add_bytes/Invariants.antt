use Rattle.std.proofs.Common.{◌≤◌}
use Rattle.std.specs.Prelude.{vec_capacity}
use Rattle.paw_journal.specs.inner.Writes.{ChangesTo}
use Rattle.paw_journal.proofs.changes.add_bytes.Given as goal

abbrev pub invariant-loop-at : goal.invariant-loop-at
invariant-loop-at l = record { made : ChangesTo l.old l.new l.at l.records.items; capacity : vec_capacity l.initial.records ≤ vec_capacity l.records }
