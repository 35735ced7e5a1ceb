use Rattle.std.proofs.Common.{◌≡◌, ◌≤◌, ◌+◌, ◌-◌, min}
use Rattle.flop_base.specs.Counts.{last_count}
use Rattle.pc_bus.specs.Boards.{board}
use Rattle.pc_bus.specs.Steps.{Runs}
use Rattle.pc_bus.proofs.machine.MachineOf.run.Given as goal

abbrev pub invariant-loop-made : goal.invariant-loop-made
invariant-loop-made g l = Runs l.made (board g.D.Drive.state l.fn.self) (board g.D.Drive.state l.self)
    × (l.self.bus.steps ≡ min (l.fn.self.bus.steps + l.made) last_count) × (l.made ≤ l.steps)

abbrev pub decreases-loop-made : goal.decreases-loop-made
decreases-loop-made g l = l.steps - l.made
