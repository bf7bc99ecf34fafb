use Rattle.paw_phrase.proofs.Shortens.{phrases_take_two}
use Rattle.paw_phrase.proofs.laws.phrases_take_two_bytes.Goals as goal

pub returns : goal.returns
returns c = record { two = phrases_take_two }
