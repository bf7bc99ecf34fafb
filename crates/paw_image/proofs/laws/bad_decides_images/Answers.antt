use Rattle.paw_image.proofs.WholeLaws.{whole_is_image, image_is_whole}
use Rattle.paw_image.proofs.laws.bad_decides_images.Goals as goal

pub returns : goal.returns
returns c = record { whole = whole_is_image; image = image_is_whole }
