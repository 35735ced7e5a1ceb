use Rattle.std.proofs.Common.{ap, ◌-◌}
use Rattle.machine_commands.proofs.Awaiting.{channel_as, sends_as}
use Rattle.machine_commands.proofs.machine.CommandedMachine.read_to.Goals as goal

pub returns-clause-sends : goal.returns-clause-sends
returns-clause-sends g c = record {
  ready = _;
  prepares = c.prepare.ensures.prepares;
  set = _;
  sets = channel_as 0x46 c.args.address _ _ _ _ (ap (λ n. n - 1) c.sector_size.ensures.size) c.set_channel.ensures.sets;
  sent = _;
  sends = sends_as _ _ _ _ c.sector_command.ensures c.send.ensures.sends;
  finishes = c.finish.ensures.finishes;
}
