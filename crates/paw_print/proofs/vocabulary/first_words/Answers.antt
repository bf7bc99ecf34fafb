use Rattle.std.proofs.Common.{◌+◌, ◌<◌, List, [], get_or, take, set, Option, sym, ◌∙◌, ap, subst, arith}
use Rattle.paw_game.specs.declared.parts.Word.{Word}
use Rattle.paw_print.specs.inner.Words.{HasFirst}
use Rattle.paw_print.proofs.FirstWords.{HasFirst-none, HasFirst-more, HasFirst-other}
use Rattle.paw_print.proofs.vocabulary.first_words.Goals as goal
use Rattle.paw_print.proofs.vocabulary.first_words.Goals.{then-word-class, else-word-class}

pub loop-word-init : goal.loop-word-init
loop-word-init c = HasFirst-none c.args.words.now c.args.class

pub loop-word-preserved : goal.loop-word-preserved
loop-word-preserved c =
    let ws = c.args.words.now in
    let i = c.loop-word.word-index in
    let none : Word = record { letters = []; value = 0; class = 0 } in
    let first = c.loop-word.first in
    elim c.if-word-class.branch [
      | then-word-class w ↦
          let small : (get_or ws i none).value < 256 = omega arith in
          subst (λ (t : List (Option Word)). HasFirst t (take (i + 1) ws) c.args.class)
          (sym (w.first-is ∙ ap (set first (get_or ws i none).value) w.or.ensures))
          (HasFirst-more first ws i none c.args.class small c.loop-word-test.true w.if-word-class.true c.loop-word.invariant)
      | else-word-class w ↦
          subst (λ (t : List (Option Word)). HasFirst t (take (i + 1) ws) c.args.class) (sym w.first-is)
          (HasFirst-other first ws i none c.args.class c.loop-word-test.true w.if-word-class.false c.loop-word.invariant)
    ]
