use Rattle.paw_image.proofs.GroupLaws.{start_found}
use Rattle.paw_image.proofs.word_index.start_from.Goals as goal

pub returns-else-group_of_word-group-clause-start : goal.returns-else-group_of_word-group-clause-start
returns-else-group_of_word-group-clause-start c =
    start_found c.args.words.now c.args.group c.loop-at.at _ c.requires.rise c.loop-at.invariant c.loop-at-test.true
    (rw c.group_of_word.ensures.value at c.if-group_of_word-group.false)
