use Rattle.std.proofs.Common.{◌≡◌, ◌-◌, ◌++◌}
use Rattle.paw_author.specs.declared.sections.TheConstants.{SECTIONS}
use Rattle.paw_author.specs.Order.{sections}
use Rattle.paw_author.proofs.order.sections.Given as goal

abbrev pub invariant-loop-section : goal.invariant-loop-section
invariant-loop-section l =
    l.lines.items ++ sections (SECTIONS - l.section) l.section l.files l.all ≡ sections SECTIONS 0 l.files l.all
