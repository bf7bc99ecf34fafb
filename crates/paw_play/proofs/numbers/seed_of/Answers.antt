use Rattle.paw_play.proofs.Names.{sym, ◌∙◌}
use Rattle.paw_play.proofs.Digits.{seed_is}
use Rattle.paw_play.proofs.numbers.seed_of.Goals as goal

pub returns-then-has_digits : goal.returns-then-has_digits
returns-then-has_digits c = record {
  value = c.ok.ensures.value ∙ seed_is c.args.word.now c.parse.result (sym c.has_digits.ensures.value ∙ c.if-has_digits.true) c.parse.ensures.value.0;
}
