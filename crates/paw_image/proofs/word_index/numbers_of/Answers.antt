use Rattle.paw_image.proofs.NumberLaws.{more_numbers}
use Rattle.paw_image.proofs.word_index.numbers_of.Goals as goal

pub loop-word-preserved : goal.loop-word-preserved
loop-word-preserved c =
    rw c.in_ok-push.ensures.items
    (more_numbers c.args.words.now c.loop-word.word-index _ c.loop-word.numbers.items c.letters_as_number.result c.loop-word-test.true c.loop-word.invariant
    c.letters_as_number.ensures.value c.letters_as_number.ensures.five)
