use Rattle.std.proofs.Common.{◌≡◌, true, ◌+◌, ◌++◌, ◌∷◌, length, take, ap, ◌∙◌, sym, arith}
use Rattle.sector_map.proofs.Common.{legal, data_byte, sync_and_marks, check_bytes, written_field, window}
use Rattle.sector_map.proofs.Pushed.{pushed_field, check_row, filled_all}
use Rattle.sector_map.proofs.writing.fill_field_words.Goals as goal
use Rattle.sector_map.proofs.writing.fill_field_words.Goals.{then-deleted, else-deleted}

pub returns : goal.returns
returns c =
    let content = c.args.content.now in
    let mark = c.if-deleted.mark in
    let check = c.data_check.result in
    let row = c.to_be_bytes-check.result in
    let begun = take 15 c.begin_field.new.words in
    let marked = take 16 c.fill_bytes-after_mark.new.words in
    let filled = take (16 + length content) c.fill_bytes-after_content.new.words in
    let whole = take (16 + length content + length row) c.fill_bytes.new.words in
    let is_mark : mark ≡ data_byte c.args.deleted =
    elim c.if-deleted.branch [
      | then-deleted w ↦ w.mark-is ∙ ap data_byte (sym w.if-deleted.true)
      | else-deleted w ↦ w.mark-is ∙ ap data_byte (sym w.if-deleted.false)
    ] in
    let field : whole ≡ window c.args.deleted content =
    pushed_field begun marked filled whole c.fill_bytes-after_mark.result c.fill_bytes-after_content.result c.fill_bytes.result mark content row c.fill_bytes-after_mark.ensures c.fill_bytes-after_content.ensures c.fill_bytes.ensures
    ∙ ap (λ words. words ++ legal true ((mark ∷ content) ++ row)) c.begin_field.ensures
    ∙ ap (λ tail. sync_and_marks ++ legal true ((mark ∷ content) ++ tail)) (check_row row check c.data_check.type_inv c.to_be_bytes-check.ensures)
    ∙ ap (λ check. sync_and_marks ++ legal true ((mark ∷ content) ++ check_bytes check)) c.data_check.ensures
    ∙ ap (λ byte. written_field (byte ∷ content)) is_mark in
    filled_all c.fill_bytes.new.words (window c.args.deleted content) (16 + length content + length row) (omega arith) field
