use Rattle.track_format.proofs.Laid.{laid_spaced, laid_regular, laid_addresses}
use Rattle.track_format.proofs.laws.laid_is_regular.Goals as goal

pub returns-clause-spaced : goal.returns-clause-spaced
returns-clause-spaced c = laid_spaced c.args._words.now c.requires

pub returns-clause-regular : goal.returns-clause-regular
returns-clause-regular c = laid_regular c.args._words.now c.requires

pub returns-clause-addresses : goal.returns-clause-addresses
returns-clause-addresses c = laid_addresses c.args._words.now
