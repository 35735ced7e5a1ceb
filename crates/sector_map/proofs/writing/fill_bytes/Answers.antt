use Rattle.std.proofs.Common.{◌+◌, ◌++◌, take, drop, get_or, slice_set, ap, ◌∙◌, sym, arith}
use Rattle.sector_map.proofs.Common.{drop_more, legal}
use Rattle.sector_map.proofs.Pushed.{pushed, filled_more}
use Rattle.sector_map.proofs.writing.fill_bytes.Goals as goal

pub loop-i-preserved : goal.loop-i-preserved
loop-i-preserved c = λ rest.
    let words = c.loop-i.words in
    let bytes = c.args.bytes.now in
    let start = c.args.start in
    let i = c.loop-i.i in
    let so_far = take (start + i) words in
    pushed so_far (take (start + (i + 1)) (slice_set words (start + i) c.encode_byte.result)) c.loop-i.after (get_or bytes i 0) c.encode_byte.result (drop (i + 1) bytes ++ rest)
    (filled_more words start i c.encode_byte.result (omega arith)) c.encode_byte.ensures
    ∙ ap (λ row. so_far ++ legal c.loop-i.after (row ++ rest)) (sym (drop_more bytes i 0 (omega arith)))
    ∙ c.loop-i.invariant rest
