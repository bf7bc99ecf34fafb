use Rattle.paw_game.proofs.Counts.{some_tables, few_tables, few_system, few_messages}
use Rattle.paw_check.proofs.DecidingLaws.{piece_is}
use Rattle.paw_check.proofs.deciding.most_piece.Goals as goal

pub round_cost-requires : goal.round_cost-requires
round_cost-requires c = record { some = some_tables c.args.parts.now c.requires.valid; few = few_tables c.args.parts.now c.requires.valid }

pub returns : goal.returns
returns c = record {
  value = piece_is c.args.parts.now c.prints_of-prints.result c.args.changing c.in_ok-round.round c.most_outside-outside.result c.most_end-end.result
      c.saturating_add-whole.result c.saturating_mul-rounds.result c.saturating_add.result c.requires.changing c.prints_of-prints.ensures.value
      (few_system c.args.parts.now c.requires.valid) (few_messages c.args.parts.now c.requires.valid) c.in_ok-round.ensures.value
      c.most_outside-outside.ensures.value c.most_end-end.ensures.value c.saturating_add-whole.ensures c.saturating_mul-rounds.ensures
      c.saturating_add.ensures;
}
