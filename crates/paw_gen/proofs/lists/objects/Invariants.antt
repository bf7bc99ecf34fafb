use Rattle.std.proofs.Common.{◌≡◌}
use Rattle.paw_gen.specs.Trial.{trial_object, rows}
use Rattle.paw_gen.proofs.lists.objects.Given as goal

abbrev pub invariant-loop-number : goal.invariant-loop-number
invariant-loop-number l = l.all.items ≡ rows l.number (trial_object l.locations)
