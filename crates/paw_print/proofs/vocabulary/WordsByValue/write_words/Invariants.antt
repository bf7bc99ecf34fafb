use Rattle.std.proofs.Common.{◌≡◌, ◌++◌, take}
use Rattle.paw_print.specs.Canonical.{words_lines, with_line_ends}
use Rattle.paw_print.proofs.vocabulary.WordsByValue.write_words.Given as goal

abbrev pub invariant-loop-word : goal.invariant-loop-word
invariant-loop-word l = l.out.items ≡ l.fn.out.items ++ with_line_ends (words_lines (take l.word-index l.words))
