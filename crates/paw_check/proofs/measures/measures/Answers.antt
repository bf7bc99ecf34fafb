use Rattle.std.proofs.Common.{◌∙◌, ap, arith, []}
use Rattle.std.specs.Option.{unwrap_or}
use Rattle.std.proofs.lemmas.Option.{slice_get_past}
use Rattle.paw_base.specs.Bytes.{Text}
use Rattle.paw_check.specs.inner.Capped.{in_32_bits}
use Rattle.paw_check.specs.inner.Own.{measure_in, measure_at}
use Rattle.paw_check.proofs.Rows.{upto_none, upto_more, upto_rest}
use Rattle.paw_check.proofs.measures.measures.Goals as goal

pub loop-at-init : goal.loop-at-init
loop-at-init c = upto_none (measure_at c.args.name c.args.texts.now)

pub loop-at-preserved : goal.loop-at-preserved
loop-at-preserved c =
    upto_more c.loop-at.row (measure_at c.args.name c.args.texts.now) c.loop-at.at c.measure.result
    (omega (arith, c.loop-at-test.true, c.requires.few))
    (c.measure.ensures.value ∙ ap (λ (t : Text). in_32_bits (measure_in c.args.name t)) c.text_of.ensures.value)
    c.loop-at.invariant

pub returns : goal.returns
returns c = record {
  value = upto_rest c.loop-at.row (measure_at c.args.name c.args.texts.now) c.loop-at.at c.loop-at.invariant
      (λ v high. ap (λ found. measure_in c.args.name (unwrap_or found [])) (slice_get_past c.args.texts.now v (omega (arith, high, c.loop-at-test.false))));
}
