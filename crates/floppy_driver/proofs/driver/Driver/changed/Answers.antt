use Rattle.floppy_driver.proofs.Asking.{tells_change}
use Rattle.floppy_driver.proofs.driver.Driver.changed.Goals as goal

pub returns-clause-step : goal.returns-clause-step
returns-clause-step g c = λ spares waiting.
    tells_change c.args.self.now c.is_held.new.self (g.C.Commands.rig c.args.machine.now) (g.C.Commands.rig c.is_held.new.machine) c.args.bay c.is_held.result spares waiting
    c.is_held.ensures.held (c.is_held.ensures.shown spares waiting) c.is_held.ensures.asks c.is_held.ensures.costs
