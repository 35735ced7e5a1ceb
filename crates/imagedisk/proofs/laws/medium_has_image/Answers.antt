use Rattle.imagedisk.proofs.Imaged.{medium_has}
use Rattle.imagedisk.proofs.laws.medium_has_image.Goals as goal

pub returns : goal.returns
returns c = medium_has c.args._least c.args._image.now c.args._medium.now c.requires.valid c.requires.made
