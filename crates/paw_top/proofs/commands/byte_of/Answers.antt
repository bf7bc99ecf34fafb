use Rattle.std.proofs.Common.{sym, ◌∙◌}
use Rattle.paw_top.proofs.Numbers.{byte_is}
use Rattle.paw_top.proofs.commands.byte_of.Goals as goal

pub returns-then-has_digits : goal.returns-then-has_digits
returns-then-has_digits c = record {
  value = c.ok.ensures.value ∙ byte_is c.args.word.now c.parse.result (sym c.has_digits.ensures.value ∙ c.if-has_digits.true) c.parse.ensures.value.0;
}
