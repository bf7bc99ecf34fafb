use Rattle.paw_image.proofs.LengthLaws.{image_short}
use Rattle.paw_image.proofs.ValidLaws.{valid_fits}
use Rattle.paw_image.proofs.encoder.image_length.Goals as goal

pub length_of_parts-requires-clause-fits : goal.length_of_parts-requires-clause-fits
length_of_parts-requires-clause-fits c = rw c.parts.ensures.value (valid_fits c.args.game.now c.parts.ensures.valid)

pub length_of_parts-requires-clause-short : goal.length_of_parts-requires-clause-short
length_of_parts-requires-clause-short c = rw c.parts.ensures.value (image_short c.args.game.now c.parts.ensures.valid)
