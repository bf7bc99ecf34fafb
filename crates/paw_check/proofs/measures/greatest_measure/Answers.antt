use Rattle.std.proofs.Common.{ap, ◌∙◌, max, drop, map, ℕ, ◌+◌, []}
use Rattle.std.proofs.lemmas.Option.{unwrap_or-slice_get}
use Rattle.paw_base.specs.Bytes.{Text}
use Rattle.paw_check.specs.Measures.{greatest}
use Rattle.paw_check.specs.inner.Capped.{in_32_bits}
use Rattle.paw_check.specs.inner.Own.{measure_in}
use Rattle.paw_check.proofs.Greatest.{capped_more, capped_all}
use Rattle.paw_check.proofs.measures.greatest_measure.Goals as goal

pub loop-at-preserved : goal.loop-at-preserved
loop-at-preserved c =
    ap (λ (n : ℕ). max n (in_32_bits (greatest (map (measure_in c.args.name) (drop (c.loop-at.at + 1) c.args.texts.now)))))
    (c.greater-most.ensures.value
    ∙ ap (max c.loop-at.most) (c.measure.ensures.value
    ∙ ap (λ (t : Text). in_32_bits (measure_in c.args.name t)) (c.text_of.ensures.value ∙ unwrap_or-slice_get c.args.texts.now c.loop-at.at [])))
    ∙ capped_more (measure_in c.args.name) c.loop-at.most c.args.texts.now c.loop-at.at [] _ c.loop-at-test.true c.loop-at.invariant

pub returns : goal.returns
returns c = record {
  value = capped_all (measure_in c.args.name) c.loop-at.most c.args.texts.now c.loop-at.at _ c.loop-at-test.false c.loop-at.invariant;
}
