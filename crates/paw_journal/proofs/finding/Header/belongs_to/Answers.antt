use Rattle.std.proofs.Common.{◌∙◌, ap, refl, inl, inr}
use Rattle.paw_journal.specs.Session.{Shown}
use Rattle.paw_journal.specs.inner.Session.{digests_of}
use Rattle.paw_journal.proofs.Sessions.{other_digest, same_digest, measured, unmeasured}
use Rattle.paw_journal.proofs.finding.Header.belongs_to.Goals.{else-ne-2-via-then-ne-2+else-ne-3}
use Rattle.paw_journal.proofs.finding.Header.belongs_to.Goals.{else-ne-2-via-else-ne-2}
use Rattle.paw_journal.proofs.finding.Header.belongs_to.Goals as goal

pub returns-then-ne-3-clause-refused : goal.returns-then-ne-3-clause-refused
returns-then-ne-3-clause-refused c r state piece e =
    let game = same_digest _ _ _ c.if-ne.false c.ne.ensures in (
      state,
      piece,
      e ∙ ap (λ g. Shown (digests_of g c.args.self.now.routines) state piece) game,
      measured _ _ c.if-ne-2.true c.ne-2.ensures,
      other_digest _ _ _ c.if-ne-3.true c.ne-then-ne-2.ensures,
      refl,
    )

pub returns-clause-belongs : goal.returns-clause-belongs
returns-clause-belongs c = record {
  of_game = same_digest _ _ _ c.if-ne.false c.ne.ensures;
  of_routines = elim c.else-ne-2.branch [
    | else-ne-2-via-then-ne-2+else-ne-3 w ↦ inr (same_digest _ _ _ w.if-ne-3.false w.ne-then-ne-2.ensures)
    | else-ne-2-via-else-ne-2 w ↦ inl (unmeasured _ _ w.if-ne-2.false c.ne-2.ensures)
  ];
}
