use Rattle.imagedisk.proofs.FoundAgain.{made_has}
use Rattle.imagedisk.proofs.laws.made_is_found.Goals as goal

pub returns : goal.returns
returns c = made_has c.args._least c.args._rate c.args._track.now c.args._words.now c.requires.valid c.requires.made
