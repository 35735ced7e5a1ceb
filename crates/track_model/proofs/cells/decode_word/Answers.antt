use Rattle.track_model.proofs.CellTables.{decoded}
use Rattle.track_model.proofs.cells.decode_word.Goals as goal

pub returns : goal.returns
returns c = decoded c.args.word c.ranges.word.fits
