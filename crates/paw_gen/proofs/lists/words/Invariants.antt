use Rattle.std.proofs.Common.{◌≡◌, ◌++◌}
use Rattle.paw_gen.specs.Trial.{named_words, object_word, rows}
use Rattle.paw_gen.proofs.lists.words.Given as goal

abbrev pub invariant-loop-number : goal.invariant-loop-number
invariant-loop-number l = l.words.items ≡ named_words ++ rows l.number object_word
