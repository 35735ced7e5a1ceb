use Rattle.std.proofs.Common.{◌∷◌, sym, ap, ◌∙◌, arith, map, drop, ◌+◌, ◌-◌, ◌≡◌}
use Rattle.track_format.proofs.Common.{crc_from, symbol_byte, crc-marks}
use Rattle.track_format.proofs.Parts.{check_steps, check_stays}
use Rattle.track_format.proofs.symbols.check_behind.Goals as goal

pub returns-then-place-lt-FIELD_START : goal.returns-then-place-lt-FIELD_START
returns-then-place-lt-FIELD_START c = λ symbols behind count is goes low.
    let bytes = map symbol_byte symbols in
    let none : c.args.place + 1 - 15 ≡ 0 = omega arith in
    ap (λ k. crc_from 0xCDB4 (drop k bytes)) none ∙ sym (crc-marks bytes)

pub returns-then-place-count : goal.returns-then-place-count
returns-then-place-count c = λ symbols behind count is goes.
    check_steps symbols behind c.args.place c.args.check c.crc_step.result (omega arith) (omega arith)
    (λ rest. ap (λ b. crc_from c.args.check (b ∷ rest)) (sym (c.byte_of.ensures ∙ ap symbol_byte is)) ∙ c.crc_step.ensures.goes_on rest)
    goes

pub returns-else-place-count : goal.returns-else-place-count
returns-else-place-count c = λ symbols behind count is goes.
    check_stays symbols behind c.args.place c.args.check (omega arith) goes
