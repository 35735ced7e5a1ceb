use Rattle.std.proofs.Common.{take}
use Rattle.fdc_stages.proofs.SearchWord.{hears_past}
use Rattle.fdc_stages.proofs.searching.Search.pass_many.Goals as goal

pub returns-clause-passed : goal.returns-clause-passed
returns-clause-passed c =
    let old = c.args.self.now in
    hears_past (take c.hunt_many.result c.args.words.now) old.turned old.marked old.separator c.hunt_many.new.self c.hunt_many.ensures.past
