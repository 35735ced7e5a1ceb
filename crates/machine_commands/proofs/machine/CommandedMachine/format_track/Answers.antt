use Rattle.std.proofs.Common.{ap, ◌∙◌, ◌-◌, ◌*◌}
use Rattle.machine_commands.proofs.Awaiting.{channel_as, format_as}
use Rattle.machine_commands.proofs.machine.CommandedMachine.format_track.Goals as goal

pub returns-clause-sends : goal.returns-clause-sends
returns-clause-sends g c = λ cylinder. record {
  ready = _;
  prepares = c.prepare.ensures.prepares;
  set = _;
  sets = channel_as 0x4A _ _ _ _ _ (ap (λ n. n * 4 - 1) (c.from.ensures ∙ c.sectors-sectors.ensures.value)) c.set_channel.ensures.sets;
  sent = _;
  sends = format_as c.args.bay c.args.h _ _ c.args.gap3 c.args.fill _ _ c.sectors-sectors.ensures.value c.send_command.ensures.sends;
  finishes = c.finish.ensures.finishes;
}
