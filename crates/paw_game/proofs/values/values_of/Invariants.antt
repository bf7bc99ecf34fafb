use Rattle.std.proofs.Common.{take}
use Rattle.paw_game.specs.inner.Values.{AreValuesOf}
use Rattle.paw_game.proofs.values.values_of.Given as goal

abbrev pub invariant-loop-word : goal.invariant-loop-word
invariant-loop-word l = AreValuesOf l.values (take l.word-index l.words) l.class
