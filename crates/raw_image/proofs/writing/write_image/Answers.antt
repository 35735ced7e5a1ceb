use Rattle.std.proofs.Common.{◌≡◌, ◌∙◌, ◌++◌, List, ℕ, [], ap}
use Rattle.raw_image.proofs.Common.{Second, Disk, bytes_of, header_bytes, disk_of, spelling, image_of, header_view}
use Rattle.raw_image.proofs.Images.{spelling_again}
use Rattle.raw_image.proofs.writing.write_image.Goals as goal

pub returns-clause-again : goal.returns-clause-again
returns-clause-again c =
    let head = header_bytes Second (disk_of (header_view c.shape-shape.result) []) in
    let spelled : c.push_bytes.new.bytes.items ≡ spelling Second c.args.medium.now =
    c.in_ok-push_bytes.ensures ∙ ap (λ (bs : List ℕ). bs ++ bytes_of c.all_words.result.now) c.in_ok-push_header.ensures ∙ ap (λ (ws : List ℕ). head ++ bytes_of ws) c.all_words.ensures
    ∙ ap (λ (d : Disk). spelling Second d) c.shape-shape.ensures.value in
    ap image_of spelled ∙ spelling_again Second c.args.medium.now c.shape-shape.ensures.valid tt
