use Rattle.track_format.proofs.Laid.{torn_spaced, torn_is_regular, torn_has_addresses}
use Rattle.track_format.proofs.laws.torn_is_regular.Goals as goal

pub returns-clause-spaced : goal.returns-clause-spaced
returns-clause-spaced c = torn_spaced c.args._words.now c.requires

pub returns-clause-regular : goal.returns-clause-regular
returns-clause-regular c = torn_is_regular c.args._words.now c.requires

pub returns-clause-addresses : goal.returns-clause-addresses
returns-clause-addresses c = torn_has_addresses c.args._words.now
