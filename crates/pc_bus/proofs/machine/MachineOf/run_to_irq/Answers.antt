use Rattle.std.proofs.Common.{sym, ◌∙◌, arith}
use Rattle.pc_bus.specs.Boards.{board}
use Rattle.pc_bus.specs.Steps.{stirred}
use Rattle.pc_bus.proofs.RunSteps.{unset_none, unset_plus}
use Rattle.pc_bus.proofs.machine.MachineOf.run_to_irq.Goals as goal

pub loop-made-init : goal.loop-made-init
loop-made-init g c = (unset_none _, omega arith)

pub loop-made-preserved : goal.loop-made-preserved
loop-made-preserved g c = (
  unset_plus c.loop-made.made c.advance-made.result (stirred (board g.D.Drive.state c.args.self.now)) (board g.D.Drive.state c.loop-made.self)
      (board g.D.Drive.state c.advance-made.new.self) c.loop-made.invariant.0
      (c.advance-made.ensures.unset (sym c.is_set.ensures ∙ c.if-is_set.false)),
  omega (arith, c.advance-made.ensures.few, c.loop-made.invariant.1),
)
