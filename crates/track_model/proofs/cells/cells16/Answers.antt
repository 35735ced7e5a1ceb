use Rattle.std.proofs.Common.{◌+◌, ◌/◌, sym, arith}
use Rattle.track_model.proofs.Places.{cells_at-word}
use Rattle.track_model.proofs.Pairs.{cells_of_pair}
use Rattle.track_model.proofs.cells.cells16.Goals as goal

pub returns-then-phase-eq0 : goal.returns-then-phase-eq0
returns-then-phase-eq0 c =
    sym (cells_at-word c.args.words.now c.args.p (c.args.p / 16) (omega arith) (omega (arith, c.type_inv.words (c.args.p / 16))))

pub returns : goal.returns
returns c =
    cells_of_pair c.args.words.now c.args.p c.from.result c.from-2.result c.from.ensures c.from-2.ensures
    (omega (arith, c.from.ensures, c.type_inv.words (c.args.p / 16)))
    (omega (arith, c.from-2.ensures, c.type_inv.words (c.args.p / 16 + 1)))
