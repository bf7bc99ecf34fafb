use Rattle.std.proofs.Common.{◌≡◌}
use Rattle.paw_gen.specs.Trial.{number_between, rows}
use Rattle.paw_gen.proofs.texts.numbered_texts.Given as goal

abbrev pub invariant-loop-number : goal.invariant-loop-number
invariant-loop-number l = l.texts.items ≡ rows l.number (number_between l.before l.after)
