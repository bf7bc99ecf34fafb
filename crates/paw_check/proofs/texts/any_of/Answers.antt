use Rattle.std.proofs.Common.{◌∙◌, ap, length, map, List}
use Rattle.paw_game.specs.Game.{GameLists}
use Rattle.paw_game.specs.declared.parts.ObjectRow.{ObjectRow}
use Rattle.paw_check.specs.Measures.{greatest}
use Rattle.paw_check.specs.inner.Capped.{in_32_bits}
use Rattle.paw_check.proofs.TextLaws.{greatest_measure_alike}
use Rattle.paw_check.proofs.texts.any_of.Goals as goal

pub returns : goal.returns
returns c = record {
  value = c.greatest_measure.ensures.value
      ∙ greatest_measure_alike c.args.parts.now c.longest_name.result c.args.texts.now
      (c.longest_name.ensures.value ∙ ap (λ (os : List ObjectRow). in_32_bits (greatest (map (λ o. length o.text) os)))
      (c.deref.ensures.value ∙ ap (λ (g : GameLists). g.objects) c.parts.view_is));
}
