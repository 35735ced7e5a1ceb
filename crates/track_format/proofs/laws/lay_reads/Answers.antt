use Rattle.track_format.proofs.Read.{read_plain, read_fields, read_spaced, read_regular}
use Rattle.track_format.proofs.laws.lay_reads.Goals as goal

pub returns-clause-plain : goal.returns-clause-plain
returns-clause-plain c = read_plain c.args._keys.now c.args._n c.args._gap3 c.args._fill c.args._words c.requires.fits

pub returns-clause-fields : goal.returns-clause-fields
returns-clause-fields c = read_fields c.args._keys.now c.args._n c.args._gap3 c.args._fill c.args._words c.requires.fits (c.requires.at_least, c.requires.at_most) c.ranges._fill.fits c.requires.bytes

pub returns-clause-spaced : goal.returns-clause-spaced
returns-clause-spaced c = read_spaced c.args._keys.now c.args._n c.args._gap3 c.args._fill c.args._words c.requires.fits (c.requires.at_least, c.requires.at_most) c.requires.bytes c.requires.asked c.requires.wide

pub returns-clause-regular : goal.returns-clause-regular
returns-clause-regular c = read_regular c.args._keys.now c.args._n c.args._gap3 c.args._fill c.args._words c.requires.fits (c.requires.at_least, c.requires.at_most) c.requires.bytes c.requires.asked c.requires.wide
