use Rattle.std.proofs.Common.{◌≤◌, ◌-◌}
use Rattle.pc_bus.specs.Boards.{board}
use Rattle.pc_bus.specs.Steps.{RunsUnset, stirred}
use Rattle.pc_bus.proofs.machine.MachineOf.run_to_irq.Given as goal

abbrev pub invariant-loop-made : goal.invariant-loop-made
invariant-loop-made g l = RunsUnset l.made (stirred (board g.D.Drive.state l.fn.self)) (board g.D.Drive.state l.self) × (l.made ≤ l.most)

abbrev pub decreases-loop-made : goal.decreases-loop-made
decreases-loop-made g l = l.most - l.made
