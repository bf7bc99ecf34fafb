use Rattle.std.proofs.Common.{◌∙◌, ap, length, map, List}
use Rattle.paw_game.specs.Game.{GameLists}
use Rattle.paw_game.specs.declared.parts.ObjectRow.{ObjectRow}
use Rattle.paw_game.proofs.Counts.{few_messages}
use Rattle.paw_check.specs.Measures.{greatest}
use Rattle.paw_check.specs.inner.Capped.{in_32_bits}
use Rattle.paw_check.proofs.TextLaws.{holds_measures}
use Rattle.paw_check.proofs.texts.messages_of.Goals as goal

pub measures-requires : goal.measures-requires
measures-requires c = record {
  few = rw (c.deref-2.ensures.value ∙ ap (λ (g : GameLists). g.messages) c.parts.view_is) (few_messages c.args.parts.now c.requires.valid);
}

pub returns : goal.returns
returns c =
    let holds = rw (c.deref-2.ensures.value ∙ ap (λ (g : GameLists). g.messages) c.parts.view_is) at c.measures.ensures.value in
    record {
      value = holds_measures c.args.parts.now c.longest_name.result c.args.parts.now.messages c.measures.result
          (c.longest_name.ensures.value ∙ ap (λ (os : List ObjectRow). in_32_bits (greatest (map (λ o. length o.text) os)))
          (c.deref.ensures.value ∙ ap (λ (g : GameLists). g.objects) c.parts.view_is)) holds;
    }
