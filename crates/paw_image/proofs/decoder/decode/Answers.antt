use Rattle.paw_image.proofs.WholeLaws.{over_is_bad}
use Rattle.paw_image.proofs.ImageLaws.{one_image}
use Rattle.paw_image.proofs.decoder.decode.Goals as goal

pub returns-then-bytes-gt-IMAGE_LIMIT-clause-at : goal.returns-then-bytes-gt-IMAGE_LIMIT-clause-at
returns-then-bytes-gt-IMAGE_LIMIT-clause-at c = over_is_bad c.args.bytes.now c.if-bytes-gt-IMAGE_LIMIT.true

pub returns-in-Some-clause-only : goal.returns-in-Some-clause-only
returns-in-Some-clause-only c = λ g is. one_image c.args.bytes.now c.in-Some.game g (rw c.in-Some.is at c.in_ok-game.ensures.found) is
