use Rattle.std.proofs.Common.{◌+◌, ◌<◌, ◌∙◌, length, arith, sym, refl, ap, subst}
use Rattle.std.specs.Prelude.{vec_capacity}
use Rattle.paw_journal.specs.inner.Writes.{ChangesTo}
use Rattle.paw_journal.proofs.Changing.{leads_same, leads_other, at_next}
use Rattle.paw_journal.proofs.changes.add_bytes.Goals.{then-old-at, else-old-at}
use Rattle.paw_journal.proofs.changes.add_bytes.Goals as goal

pub loop-at-init : goal.loop-at-init
loop-at-init c = record { made = c.requires.making; capacity = omega arith }

pub loop-at-preserved : goal.loop-at-preserved
loop-at-preserved c =
    let told_old = c.told-old ∙ sym c.told-new in
    let at = c.loop-at.at in
    let h = c.loop-at.invariant.made in
    let low : at < length c.args.old.now = omega (arith, c.told-old, c.loop-at-test.true, c.requires.within) in
    elim c.if-old-at.branch [
      | then-old-at w ↦ record {
        made = subst (λ r. ChangesTo c.args.old.now c.args.new.now (at + 1) r.items) (sym w.records-is)
            (at_next _ _ _ at (leads_other _ _ _ _ at _ h told_old low
            (omega (arith, c.loop-at-test.true, c.requires.within)) w.if-old-at.true refl w.add_change.ensures.added));
        capacity = omega (arith, ap vec_capacity w.records-is, w.add_change.ensures.capacity, c.loop-at.invariant.capacity);
      }
      | else-old-at w ↦ record {
        made = subst (λ r. ChangesTo c.args.old.now c.args.new.now (at + 1) r.items) (sym w.records-is)
            (at_next _ _ _ at (leads_same _ _ _ at h told_old low w.if-old-at.false));
        capacity = omega (arith, ap vec_capacity w.records-is, c.loop-at.invariant.capacity);
      }
    ]
