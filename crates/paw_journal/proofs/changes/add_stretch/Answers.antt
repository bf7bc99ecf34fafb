use Rattle.std.proofs.Common.{◌+◌, ◌-◌, ◌∙◌, arith, sym}
use Rattle.paw_journal.specs.declared.changes.TheConstants.{STRETCH}
use Rattle.paw_journal.proofs.Changing.{skips_stretch}
use Rattle.paw_journal.proofs.changes.add_stretch.Goals as goal

pub returns-then-are_same-clause-made : goal.returns-then-are_same-clause-made
returns-then-are_same-clause-made c =
    let at = c.args.from in
    skips_stretch _ _ _ at (at + STRETCH - at) STRETCH c.requires.making (c.told-old ∙ sym c.told-new)
    (omega (arith, c.requires.within, c.told-old)) (c.are_same.ensures.value.0 c.if-are_same.true) (omega arith)
