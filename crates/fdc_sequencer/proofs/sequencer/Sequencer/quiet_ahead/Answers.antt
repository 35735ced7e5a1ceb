use Rattle.std.proofs.Common.{sym, ◌∙◌}
use Rattle.fdc_sequencer.proofs.Common.{false≢true, front_state}
use Rattle.fdc_sequencer.proofs.Quieting.{command_lasts, foresees_none, longest_command, longest_seek}
use Rattle.fdc_sequencer.proofs.sequencer.Sequencer.quiet_ahead.Goals as goal

pub returns-then-seeks_first-clause-longest : goal.returns-then-seeks_first-clause-longest
returns-then-seeks_first-clause-longest g c =
    let front = front_state g.D.Drive.state c.args.self.now in
    longest_seek front.stage c.args.most c.quiet_seek.result front.adapter (sym c.seeks_first.ensures ∙ c.if-seeks_first.true) c.quiet_seek.ensures.longest

pub returns-then-is_in_command-clause-lasts : goal.returns-then-is_in_command-clause-lasts
returns-then-is_in_command-clause-lasts g c =
    command_lasts c.quiet_ahead.result (front_state g.D.Drive.state c.args.self.now) (sym c.seeks_first.ensures ∙ c.if-seeks_first.false)
    (c.is_in_command.ensures.command c.if-is_in_command.true) c.quiet_ahead.ensures.absent

pub returns-then-is_in_command-clause-longest : goal.returns-then-is_in_command-clause-longest
returns-then-is_in_command-clause-longest g c =
    let front = front_state g.D.Drive.state c.args.self.now in
    longest_command front.stage c.args.most c.quiet_ahead.result front.adapter (sym c.seeks_first.ensures ∙ c.if-seeks_first.false) (λ executes. c.quiet_ahead.ensures.longest)

pub returns-clause-foresees : goal.returns-clause-foresees
returns-clause-foresees g c = foresees_none (front_state g.D.Drive.state c.args.self.now)

pub returns-clause-longest : goal.returns-clause-longest
returns-clause-longest g c =
    let front = front_state g.D.Drive.state c.args.self.now in
    longest_command front.stage c.args.most 0 front.adapter (sym c.seeks_first.ensures ∙ c.if-seeks_first.false)
    (λ executes. absurd (false≢true (sym c.if-is_in_command.false ∙ c.is_in_command.ensures.value ∙ executes)))
