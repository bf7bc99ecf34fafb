use Rattle.std.proofs.Common.{◌≡◌, [], drop}
use Rattle.paw_game.specs.inner.Fault.{bad_word}
use Rattle.paw_game.proofs.words.bad_word.Given as goal

abbrev pub invariant-loop-row : goal.invariant-loop-row
invariant-loop-row l = bad_word l.row l.before (drop l.row l.words) ≡ bad_word 0 [] l.words
