use Rattle.paw_source.proofs.GameLaws.{drafts_are_valid}
use Rattle.paw_source.proofs.laws.drafts_are_valid.Goals as goal

pub returns : goal.returns
returns c =
    record { valid = drafts_are_valid }
