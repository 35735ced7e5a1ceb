use Rattle.std.proofs.Common.{sym, arith}
use Rattle.track_format.proofs.Parts.{start_gap_4a, start_sync, start_marks, start_byte, start_gap_1}
use Rattle.track_format.proofs.symbols.start_symbol.Goals as goal

pub returns-then-place-lt80 : goal.returns-then-place-lt80
returns-then-place-lt80 c = sym (start_gap_4a c.args.place (omega arith))

pub returns-then-place-lt92 : goal.returns-then-place-lt92
returns-then-place-lt92 c = sym (start_sync c.args.place (omega arith) (omega arith))

pub returns-then-place-lt95 : goal.returns-then-place-lt95
returns-then-place-lt95 c = sym (start_marks c.args.place (omega arith) (omega arith))

pub returns-then-place-eq95 : goal.returns-then-place-eq95
returns-then-place-eq95 c = sym (start_byte c.args.place (omega arith))

pub returns-else-place-eq95 : goal.returns-else-place-eq95
returns-else-place-eq95 c = sym (start_gap_1 c.args.place (omega arith))
