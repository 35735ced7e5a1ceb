use Rattle.laws_chip.proofs.Prompt.{channel_asks, port_asks, prompt_calm}
use Rattle.laws_chip.proofs.timing.a_host_in_time_gets_no_overrun.Goals as goal

pub returns-clause-channel : goal.returns-clause-channel
returns-clause-channel c = channel_asks

pub returns-clause-port : goal.returns-clause-port
returns-clause-port c = port_asks

pub returns-clause-calm : goal.returns-clause-calm
returns-clause-calm c = prompt_calm
