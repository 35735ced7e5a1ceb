use Rattle.std.proofs.Common.{◌≡◌, ◌≤◌, ◌+◌, ◌-◌, min, false}
use Rattle.flop_base.specs.Counts.{last_count}
use Rattle.pc_bus.specs.Boards.{board, latch_of}
use Rattle.pc_bus.specs.Steps.{Runs, RunsUnset}
use Rattle.pc_bus.proofs.machine.MachineOf.step_alone.Given as goal

abbrev pub invariant-loop-made : goal.invariant-loop-made
invariant-loop-made g l = Runs l.made (board g.D.Drive.state l.fn.self) (board g.D.Drive.state l.self)
    × ((latch_of (board g.D.Drive.state l.fn.self)).is_set ≡ false → RunsUnset l.made (board g.D.Drive.state l.fn.self) (board g.D.Drive.state l.self))
    × (l.self.bus.steps ≡ min (l.fn.self.bus.steps + l.made) last_count) × (1 ≤ l.made) × (l.made ≤ l.most)

abbrev pub decreases-loop-made : goal.decreases-loop-made
decreases-loop-made g l = l.most - l.made
