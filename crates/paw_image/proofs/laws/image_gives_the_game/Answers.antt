use Rattle.paw_image.proofs.ImageLaws.{one_game}
use Rattle.paw_image.proofs.laws.image_gives_the_game.Goals as goal

pub returns : goal.returns
returns c = record { one = one_game }
