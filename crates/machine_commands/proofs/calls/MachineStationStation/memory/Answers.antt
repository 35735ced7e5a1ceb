use Rattle.machine_commands.proofs.calls.MachineStationStation.memory.Goals as goal

pub returns-clause-size : goal.returns-clause-size
returns-clause-size g c = c.hold_size.ensures
