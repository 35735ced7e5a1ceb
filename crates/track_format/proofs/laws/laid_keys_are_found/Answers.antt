use Rattle.track_format.proofs.Read.{read_clear, read_only, read_filled, read_lone, read_holds}
use Rattle.track_format.proofs.laws.laid_keys_are_found.Goals as goal

pub returns-clause-clear : goal.returns-clause-clear
returns-clause-clear c = read_clear c.args._keys.now c.args._n c.args._gap3 c.args._fill c.args._words c.requires.fits (c.requires.at_least, c.requires.at_most) c.ranges._fill.fits c.requires.bytes

pub returns-clause-only : goal.returns-clause-only
returns-clause-only c = read_only c.args._keys.now c.args._n c.args._gap3 c.args._fill c.args._words c.requires.fits (c.requires.at_least, c.requires.at_most) c.ranges._fill.fits c.requires.bytes

pub returns-clause-filled : goal.returns-clause-filled
returns-clause-filled c = read_filled c.args._keys.now c.args._n c.args._gap3 c.args._fill c.args._words c.requires.fits (c.requires.at_least, c.requires.at_most) c.ranges._fill.fits c.requires.bytes

pub returns-clause-lone : goal.returns-clause-lone
returns-clause-lone c = read_lone c.args._keys.now c.args._n c.args._gap3 c.args._fill c.args._words c.requires.fits (c.requires.at_least, c.requires.at_most)

pub returns-clause-holds : goal.returns-clause-holds
returns-clause-holds c = read_holds c.args._keys.now c.args._n c.args._gap3 c.args._fill c.args._words c.requires.fits (c.requires.at_least, c.requires.at_most) c.ranges._fill.fits c.requires.bytes
