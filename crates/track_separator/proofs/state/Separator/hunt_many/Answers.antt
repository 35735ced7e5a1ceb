use Rattle.std.proofs.Common.{refl, sym, subst}
use Rattle.track_separator.proofs.Common.{BeginsIn}
use Rattle.track_separator.proofs.NoRun.{hunts_told}
use Rattle.track_separator.proofs.Told.{fed_past, fed_none}
use Rattle.track_separator.proofs.state.Separator.hunt_many.Goals as goal

pub returns-in-Hunting-clause-past : goal.returns-in-Hunting-clause-past
returns-in-Hunting-clause-past c = hunts_told _ c.args.self.now _ c.in-Hunting.is refl refl c.count_passing-count.ensures.past c.cells_behind-self.ensures

pub returns-in-Hunting-clause-any : goal.returns-in-Hunting-clause-any
returns-in-Hunting-clause-any c = λ fed h.
    fed_past _ c.args.self.now _ (subst BeginsIn (sym c.in-Hunting.is) tt) (returns-in-Hunting-clause-past c) fed h

pub returns-in_default-clause-any : goal.returns-in_default-clause-any
returns-in_default-clause-any c = λ fed h. fed_none c.args.words.now c.args.self.now fed h
