use Rattle.machine_commands.proofs.Awaiting.{output_as}
use Rattle.machine_commands.proofs.machine.CommandedMachine.set_channel.Goals as goal

pub returns-clause-sets : goal.returns-clause-sets
returns-clause-sets g c = record {
  enabled = _;
  enables = c.outb.ensures;
  masked = _;
  masks = c.outb-2.ensures;
  cleared = _;
  clears = c.outb-3.ensures;
  moded = _;
  modes = output_as 0x0B _ _ _ _ c.mode.ensures c.outb-4.ensures;
  placed = _;
  places = c.set_address.ensures.sets;
  counted = _;
  counts = c.set_count.ensures.sets;
  unmasks = c.outb-5.ensures;
}
