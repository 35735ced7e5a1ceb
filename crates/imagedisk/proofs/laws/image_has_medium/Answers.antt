use Rattle.imagedisk.proofs.Imaged.{image_has}
use Rattle.imagedisk.proofs.laws.image_has_medium.Goals as goal

pub returns : goal.returns
returns c = image_has c.args._medium.now c.args._image.now c.requires
