use Rattle.track_separator.proofs.Bits.{next_blank}
use Rattle.track_separator.proofs.register.next_cells.Goals as goal

pub returns-then-word-eq0 : goal.returns-then-word-eq0
returns-then-word-eq0 c = next_blank c.args.cells c.args.word c.if-word-eq0.true
