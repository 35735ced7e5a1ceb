use Rattle.std.proofs.Common.{arith}
use Rattle.track_separator.proofs.Remade.{remade_none, remade_more, remade_is}
use Rattle.track_separator.proofs.passing.cells_behind.Goals as goal

pub loop-place-init : goal.loop-place-init
loop-place-init c = (c.ranges.cells.fits, remade_none c.args.words.now c.args.cells _ c.saturating_sub-first.result c.saturating_sub-first.ensures)

pub loop-place-preserved : goal.loop-place-preserved
loop-place-preserved c =
    (c.next_cells-kept.type_inv, remade_more c.args.words.now c.args.cells _ c.loop-place.place c.loop-place.kept c.next_cells-kept.result (omega arith) c.loop-place.invariant.1 c.next_cells-kept.ensures)

pub returns : goal.returns
returns c =
    let first = c.saturating_sub-first.ensures in
    remade_is c.args.words.now c.args.cells c.args.count c.loop-place.place c.loop-place.kept c.ranges.cells.fits c.loop-place.invariant.0 (omega arith) c.loop-place.invariant.1
