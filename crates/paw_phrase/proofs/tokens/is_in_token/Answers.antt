use Rattle.std.proofs.Common.{arith}
use Rattle.paw_phrase.proofs.LetterTable.{in_token}
use Rattle.paw_phrase.proofs.tokens.is_in_token.Goals as goal

pub returns : goal.returns
returns c = record { value = in_token c.args.byte (omega (arith, c.ranges.byte.fits)) }
