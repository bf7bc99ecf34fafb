use Rattle.std.proofs.Common.{◌≡◌, ◌++◌, drop}
use Rattle.paw_author.specs.Order.{own_lines}
use Rattle.paw_author.proofs.order.add_own_lines.Given as goal

abbrev pub invariant-loop-u : goal.invariant-loop-u
invariant-loop-u l =
    l.out.items ++ own_lines l.all l.section l.file (drop l.u-index l.units)
    ≡ l.initial.out.items ++ own_lines l.all l.section l.file l.units
