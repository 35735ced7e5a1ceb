use Rattle.std.proofs.Common.{◌∷◌, [], sym, ap, ◌∙◌}
use Rattle.track_model.proofs.Common.{legal}
use Rattle.track_model.proofs.CellTables.{after_0, after_1}
use Rattle.track_model.proofs.cells.encode_byte.Goals as goal

pub returns-then-last : goal.returns-then-last
returns-then-last c =
    after_1 c.args.byte c.ranges.byte.fits ∙ ap (λ last. legal last (c.args.byte ∷ [])) (sym c.if-last.true)

pub returns-else-last : goal.returns-else-last
returns-else-last c =
    after_0 c.args.byte c.ranges.byte.fits ∙ ap (λ last. legal last (c.args.byte ∷ [])) (sym c.if-last.false)
