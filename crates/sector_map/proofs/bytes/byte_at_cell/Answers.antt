use Rattle.std.proofs.Common.{[], ◌∷◌, ap, ◌∙◌}
use Rattle.sector_map.proofs.Common.{byte_at, byte_at-cells_at}
use Rattle.sector_map.proofs.bytes.byte_at_cell.Goals as goal

pub returns : goal.returns
returns c =
    c.decode_word.ensures ∙ ap (λ word. byte_at (word ∷ []) 0) c.cells16.ensures ∙ byte_at-cells_at c.args.words.now c.args.p
