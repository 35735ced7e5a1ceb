use Rattle.std.proofs.Common.{sym, ap, ◌+◌, slice_index, ◌∙◌}
use Rattle.machine_commands.proofs.Common.{user_bytes, memory_of, board_of}
use Rattle.machine_commands.proofs.Landing.{page_at}
use Rattle.machine_commands.proofs.commands.CommandedMachineCommands.page.Goals as goal

pub returns : goal.returns
returns g c =
    let memory = memory_of (board_of g.D.Drive.state c.args.self.now) in
    record { byte = c.ram.ensures.byte ∙ (ap (λ n. slice_index memory (user_bytes + n)) c.from.ensures ∙ sym (page_at memory c.args.i)) }
