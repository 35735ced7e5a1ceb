use Rattle.std.proofs.Common.{rules}
use Rattle.text_commands.proofs.Common.{board}
use Rattle.text_commands.proofs.NamedPorts.{named_read, named_write, named_wait}
use Rattle.text_commands.proofs.ports.doing.do_line.Goals as goal

pub returns-in-In : goal.returns-in-In
returns-in-In g c = record {
  does = search rules;
  named = named_read _ _ _ (board g.D.Drive.state c.args.machine.now) (board g.D.Drive.state c.read.new.machine) c.read.ensures.inputs c.requires;
  shelf_faults = search rules;
}

pub returns-in-Out : goal.returns-in-Out
returns-in-Out g c = record {
  does = search rules;
  named = named_write _ _ _ (board g.D.Drive.state c.args.machine.now) (board g.D.Drive.state c.outb.new.self) c.outb.ensures c.requires;
  shelf_faults = search rules;
}

pub returns-in-Wait : goal.returns-in-Wait
returns-in-Wait g c = record {
  does = search rules;
  named = named_wait _ _ (board g.D.Drive.state c.args.machine.now) (board g.D.Drive.state c.wait.new.self) c.wait.ensures.runs c.requires;
  shelf_faults = search rules;
}
