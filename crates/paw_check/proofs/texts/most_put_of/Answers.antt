use Rattle.std.proofs.Common.{◌∙◌}
use Rattle.paw_game.proofs.Counts.{few_system}
use Rattle.paw_check.proofs.TextLaws.{greatest_of_row}
use Rattle.paw_check.proofs.texts.most_put_of.Goals as goal

pub returns : goal.returns
returns c = record {
  value = c.greatest_put.ensures.value
      ∙ greatest_of_row c.args.parts.now c.args.system.now c.args.messages.now (few_system c.args.parts.now c.requires.valid) c.requires.system;
}
