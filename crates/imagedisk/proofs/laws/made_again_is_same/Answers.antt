use Rattle.imagedisk.proofs.Imaged.{image_has, medium_has, shares_sectors}
use Rattle.imagedisk.proofs.laws.made_again_is_same.Goals as goal

pub returns-clause-kept : goal.returns-clause-kept
returns-clause-kept c =
    let old = c.args._old.now in
    let image = c.args._image.now in
    let new = c.args._new.now in
    shares_sectors old new image (image_has old image c.requires.taken) (medium_has c.args._least image new c.requires.valid c.requires.made)

pub returns-clause-no_more : goal.returns-clause-no_more
returns-clause-no_more c =
    let old = c.args._old.now in
    let image = c.args._image.now in
    let new = c.args._new.now in
    shares_sectors new old image (medium_has c.args._least image new c.requires.valid c.requires.made) (image_has old image c.requires.taken)
