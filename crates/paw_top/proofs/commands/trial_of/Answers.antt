use Rattle.std.proofs.Common.{sym, ◌∙◌}
use Rattle.paw_top.proofs.Numbers.{trial_is}
use Rattle.paw_top.proofs.commands.trial_of.Goals as goal

pub returns-then-has_digits : goal.returns-then-has_digits
returns-then-has_digits c = record {
  value = c.ok.ensures.value ∙ trial_is c.args.word.now c.parse.result (sym c.has_digits.ensures.value ∙ c.if-has_digits.true) c.parse.ensures.value.0;
}
