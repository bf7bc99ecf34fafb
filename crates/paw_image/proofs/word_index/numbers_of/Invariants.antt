use Rattle.std.proofs.Common.{take}
use Rattle.paw_image.specs.inner.Numbers.{AreNumbers}
use Rattle.paw_image.proofs.word_index.numbers_of.Given as goal

-- The numbers so far are those of the words so far.
abbrev pub invariant-loop-word : goal.invariant-loop-word
invariant-loop-word l = AreNumbers (take l.word-index l.words) l.numbers.items
