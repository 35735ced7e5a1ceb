use Rattle.track_format.proofs.Narrow.{narrow_suits}
use Rattle.track_format.proofs.laws.as_many_suit.Goals as goal

pub returns : goal.returns
returns c = narrow_suits c.args._rate c.args._n c.args._sectors c.args._gap3 c.requires.at_least c.requires.at_most c.requires.fits
