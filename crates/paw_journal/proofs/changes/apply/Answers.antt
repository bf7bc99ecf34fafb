use Rattle.std.proofs.Common.{arith}
use Rattle.paw_journal.proofs.Applies.{unsound_end, unsound_offset, unsound_last}
use Rattle.paw_journal.proofs.changes.apply.Goals.{then-at-ge-BASE_LENGTH-via-then-at-ge-BASE_LENGTH}
use Rattle.paw_journal.proofs.changes.apply.Goals.{then-at-ge-BASE_LENGTH-via-else-at-ge-BASE_LENGTH+then-last-ne0}
use Rattle.paw_journal.proofs.changes.apply.Goals as goal

pub returns-then-at-ge-BASE_LENGTH-clause-unsound : goal.returns-then-at-ge-BASE_LENGTH-clause-unsound
returns-then-at-ge-BASE_LENGTH-clause-unsound c = elim c.then-at-ge-BASE_LENGTH.branch [
  | then-at-ge-BASE_LENGTH-via-then-at-ge-BASE_LENGTH w ↦ unsound_offset _ _ _ _ _ c.loop-rest.invariant
      c.in-len4-up.len_at_least (omega (arith, c.from.ensures, c.from-in-len4-up.ensures, w.if-at-ge-BASE_LENGTH.true))
  | then-at-ge-BASE_LENGTH-via-else-at-ge-BASE_LENGTH+then-last-ne0 w ↦ unsound_last _ _ _ _ _ c.loop-rest.invariant
      c.in-len4-up.len_at_least w.if-last-ne0.true
]

pub returns-clause-unsound : goal.returns-clause-unsound
returns-clause-unsound c = unsound_end _ _ _ _ _ c.loop-rest.invariant c.in_default.len_below
