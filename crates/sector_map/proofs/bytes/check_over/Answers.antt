use Rattle.std.proofs.Common.{[], ◌∷◌, ◌++◌, ap, ◌∙◌, sym, arith}
use Rattle.sector_map.proofs.Common.{bytes_at, crc, after_marks, marks_crc, bytes_at-more}
use Rattle.sector_map.proofs.bytes.check_over.Goals as goal

pub loop-i-init : goal.loop-i-init
loop-i-init c = sym marks_crc

pub loop-i-preserved : goal.loop-i-preserved
loop-i-preserved c =
    let words = c.args.words.now in
    let so_far = bytes_at words c.args.p c.loop-i.i in
    c.crc_step-check.ensures.extends (after_marks so_far) (omega arith) c.loop-i.invariant
    ∙ ap (λ byte. crc (after_marks (so_far ++ byte ∷ []))) c.byte_at_cell.ensures
    ∙ ap (λ bytes. crc (after_marks bytes)) (sym (bytes_at-more words c.args.p c.loop-i.i))

pub returns : goal.returns
returns c =
    c.loop-i.invariant ∙ ap (λ count. crc (after_marks (bytes_at c.args.words.now c.args.p count))) (omega arith)
