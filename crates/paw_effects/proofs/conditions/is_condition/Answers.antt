use Rattle.std.proofs.Common.{ap, sym, ◌∙◌, nat_lt}
use Rattle.paw_base.specs.declared.codes.TheConstants.{INVEN}
use Rattle.paw_base.specs.Condacts.{plain_code}
use Rattle.paw_effects.proofs.Carried.{plain_code_plain}
use Rattle.paw_effects.proofs.Meant.{low_is}
use Rattle.paw_effects.proofs.conditions.is_condition.Goals as goal

pub returns : goal.returns
returns c = record {
  value = ap (λ code. nat_lt code INVEN) c.plain_code.ensures.value
      ∙ sym (low_is (plain_code c.args.c.code) (plain_code_plain c.args.c.code c.requires.code));
}
