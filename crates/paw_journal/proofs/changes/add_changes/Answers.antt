use Rattle.std.proofs.Common.{◌*◌, arith, subst}
use Rattle.paw_journal.specs.declared.changes.TheConstants.{STRETCH}
use Rattle.paw_journal.specs.inner.Writes.{ChangesTo}
use Rattle.paw_journal.proofs.Changing.{leads_none, leads_all}
use Rattle.paw_journal.proofs.changes.add_changes.Goals as goal

pub loop-stretch-init : goal.loop-stretch-init
loop-stretch-init c = record { made = leads_none _ _ _ c.requires.empty; capacity = omega arith }

pub loop-stretch-preserved : goal.loop-stretch-preserved
loop-stretch-preserved c = record {
  made = subst (λ n. ChangesTo c.args.old.now c.args.new.now n c.add_stretch.new.records.items) (omega arith)
      c.add_stretch.ensures.made;
  capacity = omega (arith, c.loop-stretch.invariant.capacity, c.add_stretch.ensures.capacity);
}

pub returns-clause-made : goal.returns-clause-made
returns-clause-made c =
    leads_all _ _ _ (c.loop-stretch.stretch * STRETCH) c.loop-stretch.invariant.made
    (omega (arith, c.told-old, c.loop-stretch-test.false, c.loop-stretch.auto.stretch-end))
    (omega (arith, c.told-new, c.loop-stretch-test.false, c.loop-stretch.auto.stretch-end))
