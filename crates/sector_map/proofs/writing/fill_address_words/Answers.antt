use Rattle.std.proofs.Common.{◌≡◌, true, ℕ, List, take, ◌++◌, [], ◌∷◌, get_or, ap, ◌∙◌, arith}
use Rattle.sector_map.proofs.Common.{legal, sync_and_marks, check_bytes, address_field}
use Rattle.sector_map.proofs.Pushed.{pushed_all, check_ends, filled_all}
use Rattle.sector_map.proofs.writing.fill_address_words.Goals as goal

pub returns : goal.returns
returns c =
    let key = c.args.key in
    let check = c.field_crc.result in
    let row = c.to_be_bytes-check.result in
    let begun = take 15 c.begin_field.new.words in
    let whole = take 22 c.fill_bytes.new.words in
    let bytes = λ (tail : List ℕ). 0xFE ∷ key.c ∷ key.h ∷ key.r ∷ key.n ∷ tail in
    let field : whole ≡ address_field key =
    pushed_all begun whole (bytes (get_or row 0 0 ∷ get_or row 1 0 ∷ [])) true c.fill_bytes.result (c.fill_bytes.ensures [])
    ∙ ap (λ words. words ++ legal true (bytes (get_or row 0 0 ∷ get_or row 1 0 ∷ []))) c.begin_field.ensures
    ∙ ap (λ tail. sync_and_marks ++ legal true (bytes tail)) (check_ends row check c.field_crc.type_inv c.to_be_bytes-check.ensures)
    ∙ ap (λ crc. sync_and_marks ++ legal true (bytes (check_bytes crc))) c.field_crc.ensures in
    filled_all c.fill_bytes.new.words (address_field key) 22 (omega arith) field
