use Rattle.std.proofs.Common.{refl}
use Rattle.sector_map.proofs.Common.{window_words}
use Rattle.track_model.proofs.Kept.{empty_kept, empty_none}
use Rattle.sector_map.proofs.laws.windows.empty_keeps.Goals as goal

pub returns-clause-keeps : goal.returns-clause-keeps
returns-clause-keeps c = empty_kept c.args._words.now c.args._place c.args._key (window_words c.args._key.n) c.requires.spaced c.requires.address refl

pub returns-clause-none : goal.returns-clause-none
returns-clause-none c = empty_none c.args._words.now c.args._place c.args._key (window_words c.args._key.n) c.requires.spaced c.requires.address refl
