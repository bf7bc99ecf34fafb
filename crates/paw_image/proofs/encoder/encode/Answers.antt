use Rattle.paw_image.proofs.ValidLaws.{valid_fits}
use Rattle.paw_image.proofs.encoder.encode.Goals as goal

pub write_parts-requires : goal.write_parts-requires
write_parts-requires c = record { fits = rw c.parts.ensures.value (valid_fits c.args.game.now c.parts.ensures.valid) }
