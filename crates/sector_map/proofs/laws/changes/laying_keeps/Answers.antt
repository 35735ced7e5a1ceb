use Rattle.sector_map.proofs.Common.{format_at, laying_at}
use Rattle.sector_map.proofs.Laid.{laid_whole, layings_join}
use Rattle.sector_map.proofs.laws.changes.laying_keeps.Goals as goal

pub returns-clause-whole : goal.returns-clause-whole
returns-clause-whole c = λ whole.
    laid_whole (format_at c.args._c c.args._h c.args._rate c.args._gap3 c.args._fill) c.args.medium.now
    (laying_at c.args._cylinder c.args._words) c.args._after.now c.words-length.ensures.valid c.requires.laying whole

pub returns-clause-later : goal.returns-clause-later
returns-clause-later c = λ laying last same second.
    layings_join (format_at c.args._c c.args._h c.args._rate c.args._gap3 c.args._fill) c.args.medium.now
    (laying_at c.args._cylinder c.args._words) c.args._after.now laying last c.words-length.ensures.valid c.requires.laying second same
