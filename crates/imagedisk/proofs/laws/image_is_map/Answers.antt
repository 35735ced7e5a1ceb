use Rattle.imagedisk.proofs.Mapped.{image_map}
use Rattle.imagedisk.proofs.laws.image_is_map.Goals as goal

pub returns : goal.returns
returns c = image_map c.args._medium.now c.args._image.now c.requires
