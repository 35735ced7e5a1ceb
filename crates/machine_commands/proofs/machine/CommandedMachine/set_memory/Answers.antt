use Rattle.machine_commands.proofs.Common.{board_of}
use Rattle.machine_commands.proofs.PastDriver.{puts_memory, memory_idle}
use Rattle.machine_commands.proofs.machine.CommandedMachine.set_memory.Goals as goal

pub returns-clause-step : goal.returns-clause-step
returns-clause-step g c =
    puts_memory c.args.address c.args.byte (board_of g.D.Drive.state c.args.self.now) _ c.requires c.keep_counts.ensures.counts.direct c.ram_set.ensures

pub returns-clause-idle : goal.returns-clause-idle
returns-clause-idle g c =
    memory_idle c.args.self.now.motors c.args.address c.args.byte (board_of g.D.Drive.state c.args.self.now) _ c.ram_set.ensures c.keep_ranges.ensures.first c.keep_ranges.ensures.second
