use Rattle.std.proofs.Common.{◌/◌, ◌%◌, ap, sym, ◌∙◌, arith}
use Rattle.track_format.proofs.Common.{Byte}
use Rattle.track_format.proofs.Parts.{in_sync, in_marks, in_symbols, in_high, in_low, in_gap, check_is}
use Rattle.track_format.proofs.symbols.field_symbol.Goals as goal

pub returns-then-place-lt12 : goal.returns-then-place-lt12
returns-then-place-lt12 c = λ symbols behind count inner goes. sym (in_sync symbols behind c.args.place (omega arith))

pub returns-then-place-lt-FIELD_START : goal.returns-then-place-lt-FIELD_START
returns-then-place-lt-FIELD_START c = λ symbols behind count inner goes. sym (in_marks symbols behind c.args.place (omega arith) (omega arith))

pub returns-then-place-end : goal.returns-then-place-end
returns-then-place-end c = λ symbols behind count inner goes.
    inner (omega arith) (omega arith) ∙ sym (in_symbols symbols behind c.args.place (omega arith) (omega arith))

pub returns-then-place-end-2 : goal.returns-then-place-end-2
returns-then-place-end-2 c = λ symbols behind count inner goes.
    ap (λ check. Byte (check / 256)) (check_is symbols behind c.args.place c.args.check c.ranges.check.fits (omega arith) goes) ∙ sym (in_high symbols behind c.args.place (omega arith))

pub returns-then-place-end-3 : goal.returns-then-place-end-3
returns-then-place-end-3 c = λ symbols behind count inner goes.
    ap (λ check. Byte (check % 256)) (check_is symbols behind c.args.place c.args.check c.ranges.check.fits (omega arith) goes) ∙ sym (in_low symbols behind c.args.place (omega arith))

pub returns-else-place-end-3 : goal.returns-else-place-end-3
returns-else-place-end-3 c = λ symbols behind count inner goes. sym (in_gap symbols behind c.args.place (omega arith))
