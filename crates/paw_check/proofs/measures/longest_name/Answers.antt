use Rattle.std.proofs.Common.{◌≡◌, ap, ◌∙◌, max, drop, map, length, get_or, ℕ, ◌+◌, rules}
use Rattle.paw_game.specs.declared.parts.ObjectRow.{ObjectRow}
use Rattle.paw_check.specs.Measures.{greatest}
use Rattle.paw_check.specs.inner.Capped.{in_32_bits}
use Rattle.paw_check.proofs.Greatest.{capped_more, capped_all}
use Rattle.paw_check.proofs.measures.longest_name.Goals as goal

abbrev length_in : ObjectRow → ℕ
length_in o = length o.text

pub loop-object-preserved : goal.loop-object-preserved
loop-object-preserved c =
    let item : length c.as_slice.result.now ≡ length (get_or c.args.objects.now c.loop-object.object-index c.object-item.result).text = search rules in
    ap (λ (n : ℕ). max n (in_32_bits (greatest (map length_in (drop (c.loop-object.object-index + 1) c.args.objects.now)))))
    (c.greater-most.ensures.value ∙ ap (max c.loop-object.most) (c.length_of.ensures.value ∙ ap in_32_bits item))
    ∙ capped_more length_in c.loop-object.most c.args.objects.now c.loop-object.object-index c.object-item.result _ c.loop-object-test.true
    c.loop-object.invariant

pub returns : goal.returns
returns c = record {
  value = capped_all length_in c.loop-object.most c.args.objects.now c.loop-object.object-index _ c.loop-object-test.false c.loop-object.invariant;
}
