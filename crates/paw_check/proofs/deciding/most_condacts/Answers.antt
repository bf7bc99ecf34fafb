use Rattle.paw_game.proofs.Counts.{some_tables, few_tables}
use Rattle.paw_check.proofs.DecidingLaws.{condacts_are}
use Rattle.paw_check.proofs.deciding.most_condacts.Goals as goal

pub round_cost-requires : goal.round_cost-requires
round_cost-requires c = record { some = some_tables c.args.parts.now c.requires.valid; few = few_tables c.args.parts.now c.requires.valid }

pub returns : goal.returns
returns c = record {
  value = condacts_are c.args.parts.now c.args.changing c.in_ok-round.round c.saturating_mul.result c.requires.changing
      c.in_ok-round.ensures.value c.saturating_mul.ensures;
}
