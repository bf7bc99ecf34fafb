use Rattle.std.proofs.Common.{◌≡◌, ◌∙◌, length, arith, rules}
use Rattle.paw_base.specs.declared.messages.TheConstants.{IS_WORN_MESSAGE}
use Rattle.paw_check.specs.Measures.{most_put}
use Rattle.paw_check.specs.inner.Capped.{in_32_bits}
use Rattle.paw_check.proofs.Capped.{product_alike, from_capped}
use Rattle.paw_check.proofs.texts.worn_of.Goals as goal

pub returns : goal.returns
returns c =
    let many : c.count_of-objects.result ≡ in_32_bits (length c.args.parts.now.objects) = search rules in
    record {
      value = c.saturating_mul.ensures
          ∙ product_alike _ (length c.args.parts.now.objects) _ (most_put c.args.parts.now IS_WORN_MESSAGE) (from_capped _ _ many)
          (from_capped _ _ (c.requires.system.each IS_WORN_MESSAGE (omega arith)));
    }
