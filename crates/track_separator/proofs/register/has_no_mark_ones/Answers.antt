use Rattle.track_separator.proofs.Common.{eqb-true}
use Rattle.track_separator.proofs.Bits.{mark_ones}
use Rattle.track_separator.proofs.register.has_no_mark_ones.Goals as goal

pub returns : goal.returns
returns c = λ e back small run. mark_ones c.args.recent back small run (eqb-true _ _ e)
