use Rattle.paw_gen.proofs.Valids.{trial_valid}
use Rattle.paw_gen.proofs.laws.trial_games_are_valid.Goals as goal

pub returns : goal.returns
returns c =
    record { valid = λ n. trial_valid n }
