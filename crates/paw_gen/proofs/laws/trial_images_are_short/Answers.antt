use Rattle.paw_gen.proofs.Shorts.{trial_short}
use Rattle.paw_gen.proofs.laws.trial_images_are_short.Goals as goal

pub returns : goal.returns
returns c =
    record { short = λ n. trial_short n }
