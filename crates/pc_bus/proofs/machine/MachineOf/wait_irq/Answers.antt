use Rattle.pc_bus.specs.Boards.{board}
use Rattle.pc_bus.proofs.RunSteps.{waits_of}
use Rattle.pc_bus.proofs.machine.MachineOf.wait_irq.Goals as goal

pub returns : goal.returns
returns g c =
    waits_of c.args.most c.run_to_irq.result (board g.D.Drive.state c.args.self.now) (board g.D.Drive.state c.run_to_irq.new.self) _ c.run_to_irq.ensures
    c.is_irq_set.ensures
