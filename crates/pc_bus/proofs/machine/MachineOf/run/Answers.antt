use Rattle.std.proofs.Common.{arith}
use Rattle.pc_bus.specs.Boards.{board}
use Rattle.pc_bus.proofs.RunSteps.{runs_none, runs_plus, steps_none, steps_plus}
use Rattle.pc_bus.proofs.machine.MachineOf.run.Goals as goal

pub loop-made-init : goal.loop-made-init
loop-made-init g c = (runs_none _, steps_none (board g.D.Drive.state c.args.self.now) (omega arith), omega arith)

pub loop-made-preserved : goal.loop-made-preserved
loop-made-preserved g c = (
  runs_plus c.loop-made.made c.advance-made.result (board g.D.Drive.state c.args.self.now) (board g.D.Drive.state c.loop-made.self)
      (board g.D.Drive.state c.advance-made.new.self) c.loop-made.invariant.0 c.advance-made.ensures.runs,
  steps_plus c.loop-made.made c.advance-made.result c.args.self.now.bus.steps c.loop-made.self.bus.steps c.advance-made.new.self.bus.steps
      c.loop-made.invariant.1 c.advance-made.ensures.steps,
  omega (arith, c.advance-made.ensures.few, c.loop-made.invariant.2),
)
