use Rattle.std.proofs.Common.{sym, ◌∙◌}
use Rattle.remaster.proofs.Common.{false≢true}
use Rattle.remaster.proofs.Fits.{fit_shares, planned}
use Rattle.remaster.proofs.fit.fitting_gap.Goals as goal

pub returns-then-not-may_share : goal.returns-then-not-may_share
returns-then-not-may_share c = λ fit.
    false≢true (sym c.if-not-may_share.true ∙ c.may_share.ensures.1 (fit_shares c.args.rate c.args.c c.args.h c.args.n c.args.sectors.now c.requires.some c.requires.first fit))

pub returns : goal.returns
returns c =
    planned c.args.rate c.args.c c.args.h c.args.n c.args.sectors.now c.requires.some c.requires.first c.choose_gap.result (c.may_share.ensures.0 c.if-not-may_share.false) c.choose_gap.ensures
