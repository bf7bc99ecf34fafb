use Rattle.paw_source.proofs.GameLaws.{spells_valid_games}
use Rattle.paw_source.proofs.laws.spelled_games_are_valid.Goals as goal

pub returns : goal.returns
returns c =
    record { valid = spells_valid_games }
