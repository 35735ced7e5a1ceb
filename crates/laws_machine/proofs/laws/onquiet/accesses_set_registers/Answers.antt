use Rattle.laws_machine.proofs.OnQuiet.Accesses.{channel_stands, byte_stands, rate_stands, input_stands}
use Rattle.laws_machine.proofs.laws.onquiet.accesses_set_registers.Goals as goal

pub returns-clause-channel : goal.returns-clause-channel
returns-clause-channel c = channel_stands

pub returns-clause-byte : goal.returns-clause-byte
returns-clause-byte c = byte_stands

pub returns-clause-rate : goal.returns-clause-rate
returns-clause-rate c = rate_stands

pub returns-clause-read : goal.returns-clause-read
returns-clause-read c = input_stands
