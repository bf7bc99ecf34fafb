use Rattle.paw_gen.specs.Trial.{named_words, object_word}
use Rattle.paw_gen.proofs.Rows.{pushed}
use Rattle.paw_gen.proofs.lists.words.Goals as goal

pub loop-number-preserved : goal.loop-number-preserved
loop-number-preserved c =
    pushed object_word named_words c.loop-number.number c.loop-number.words.items c.push.new.self.items c.object_word.result
    c.loop-number.invariant c.object_word.ensures.value c.in_ok-push.ensures.items
