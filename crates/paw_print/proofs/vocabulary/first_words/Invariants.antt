use Rattle.std.proofs.Common.{take}
use Rattle.paw_print.specs.inner.Words.{HasFirst}
use Rattle.paw_print.proofs.vocabulary.first_words.Given as goal

abbrev pub invariant-loop-word : goal.invariant-loop-word
invariant-loop-word l = HasFirst l.first (take l.word-index l.words) l.class
