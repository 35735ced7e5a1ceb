use Rattle.test_driver.proofs.ReadSteps.{no_id}
use Rattle.test_driver.proofs.bench.Bench.find_id.Goals as goal

pub returns-in-Ok-None : goal.returns-in-Ok-None
returns-in-Ok-None c =
    let self = c.args.self.now in
    no_id self.drives self.memory.items self.page.items self.counts c.send-in-Ok-None.new.self c.args.bay c.args.head c.args.rate
    c.get.result.now _ _ c.send-in-Ok-None.ensures c.get.ensures c.in-Ok-None.field-0-is c.in-Ok-None.ensures
