use Rattle.sector_map.proofs.Placed.{placed}
use Rattle.sector_map.proofs.window.place_window.Goals as goal

pub returns : goal.returns
returns c =
    placed c.args.words.now c.copy_from_slice.new.self c.args.window.now c.args.place c.window_word-start.result c.args.cut c.window_word-start.ensures c.copy_from_slice.ensures.after c.requires.most
