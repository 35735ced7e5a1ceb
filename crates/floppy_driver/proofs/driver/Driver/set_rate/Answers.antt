use Rattle.std.proofs.Common.{sym, ap, ◌∙◌}
use Rattle.floppy_driver.proofs.Common.{Notes, with_notes}
use Rattle.floppy_driver.proofs.Asking.{rate_refused, rate_done}
use Rattle.floppy_driver.proofs.driver.Driver.set_rate.Goals as goal

pub returns-then-not-is_held-clause-step : goal.returns-then-not-is_held-clause-step
returns-then-not-is_held-clause-step g c = λ spares waiting.
    rate_refused c.args.self.now c.is_held.new.self c.is_held.new.self (g.C.Commands.rig c.args.machine.now) (g.C.Commands.rig c.is_held.new.machine)
    c.args.bay c.args.rate spares waiting c.if-bay-gt1.false (c.is_held.ensures.shown spares waiting) c.is_held.ensures.asks c.is_held.ensures.costs
    (sym c.is_held.ensures.held ∙ c.if-not-is_held.true)

pub returns-clause-step : goal.returns-clause-step
returns-clause-step g c = λ spares waiting.
    rate_done c.args.self.now c.is_held.new.self c.set_notes.new.self (g.C.Commands.rig c.args.machine.now) (g.C.Commands.rig c.is_held.new.machine)
    c.args.bay c.args.rate spares waiting c.if-bay-gt1.false (c.is_held.ensures.shown spares waiting) c.is_held.ensures.asks c.is_held.ensures.costs
    (sym c.is_held.ensures.held ∙ c.if-not-is_held.false)
    (c.set_notes.ensures ∙ ap (λ (n : Notes). with_notes c.is_held.new.self c.args.bay (record n { rate = c.args.rate })) c.notes-notes.ensures)
