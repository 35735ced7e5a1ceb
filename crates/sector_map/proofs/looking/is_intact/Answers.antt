use Rattle.sector_map.proofs.Intact.{intact_by_check}
use Rattle.sector_map.proofs.looking.is_intact.Goals as goal

pub returns-then-touches_no_zero : goal.returns-then-touches_no_zero
returns-then-touches_no_zero c =
    intact_by_check c.args.words.now c.args.q c.args.n c.sector_size-size.result c.sector_size-size.ensures.size c.is_checked.result c.requires.inside (c.touches_no_zero.ensures.0 c.if-touches_no_zero.true) c.is_checked.ensures
