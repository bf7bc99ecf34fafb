use Rattle.std.proofs.Common.{◌∙◌, ap, arith}
use Rattle.sha2.specs.Sha256.{sha256}
use Rattle.paw_game.specs.Image.{image}
use Rattle.paw_trial.proofs.setup.TrialSetup.new.Goals as goal

pub invariant_of-result : goal.invariant_of-result
invariant_of-result c = (
  c.in_ok-game.ensures.game,
  c.digest-digest.ensures.value ∙ ap sha256 (c.as_slice.ensures.value ∙ (c.in_ok-image.ensures.value ∙ ap image c.in_ok-game.ensures.game)),
  c.in_ok-lines.ensures.value,
  omega (arith, c.ranges.n),
)
