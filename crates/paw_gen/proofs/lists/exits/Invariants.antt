use Rattle.std.proofs.Common.{◌≡◌}
use Rattle.paw_gen.specs.Trial.{ring_exits, rows}
use Rattle.paw_gen.proofs.lists.exits.Given as goal

abbrev pub invariant-loop-number : goal.invariant-loop-number
invariant-loop-number l = l.all.items ≡ rows l.number (ring_exits l.locations)
