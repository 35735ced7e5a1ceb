use Rattle.track_separator.proofs.Bits.{recent_run}
use Rattle.track_separator.proofs.register.ends_no_run.Goals as goal

pub returns : goal.returns
returns c = λ e back small run. c.has_no_mark_ones.ensures e back small (recent_run c.args.cells back small run)
