use Rattle.std.proofs.Common.{◌≡◌, ◌++◌}
use Rattle.paw_grammar.specs.inner.WordMap.{words_in}
use Rattle.paw_grammar.proofs.vocabulary.word_list.Given as goal

abbrev pub invariant-loop-letters : goal.invariant-loop-letters
invariant-loop-letters l = l.list.items ++ words_in l.letters-iterator ≡ words_in l.words.entries
