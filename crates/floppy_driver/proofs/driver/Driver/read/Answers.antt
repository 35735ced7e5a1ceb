use Rattle.std.proofs.Common.{sym, ap, ◌∙◌, arith}
use Rattle.floppy_driver.proofs.Common.{crosses_page, shown}
use Rattle.floppy_driver.proofs.Shows.{acknowledged_held, asks_shown}
use Rattle.floppy_driver.proofs.Lasting.{question_costs}
use Rattle.floppy_driver.proofs.Asking.{refused_asking}
use Rattle.floppy_driver.proofs.ReadStep.{reads_refused, reads_drive}
use Rattle.floppy_driver.proofs.driver.Driver.read.Goals as goal

pub returns-then-not-is_held-clause-step : goal.returns-then-not-is_held-clause-step
returns-then-not-is_held-clause-step g c = λ spares waiting.
    let before = shown c.args.self.now (g.C.Commands.rig c.args.machine.now) spares waiting in
    let after = shown c.is_held.new.self (g.C.Commands.rig c.is_held.new.machine) spares waiting in
    let asked = asks_shown c.args.self.now c.is_held.new.self (g.C.Commands.rig c.args.machine.now) (g.C.Commands.rig c.is_held.new.machine) spares waiting (c.is_held.ensures.shown spares waiting) c.is_held.ensures.asks in
    reads_refused before c.args.bay c.args.key c.args.address _ after
    (sym c.is_sector_request.ensures.value ∙ c.if-not-is_sector_request.false)
    (ap (crosses_page c.args.address) (sym c.sector_size.ensures.size) ∙ sym c.crosses_page.ensures ∙ c.if-crosses_page.false)
    (acknowledged_held c.args.self.now (g.C.Commands.rig c.args.machine.now) spares waiting c.args.bay ∙ sym c.is_held.ensures.held ∙ c.if-not-is_held.true)
    (refused_asking before _ after asked (question_costs c.args.bay 2 (g.C.Commands.rig c.args.machine.now) (g.C.Commands.rig c.is_held.new.machine) (omega arith) c.is_held.ensures.costs))

pub returns-clause-step : goal.returns-clause-step
returns-clause-step g c = λ spares waiting.
    let before = shown c.args.self.now (g.C.Commands.rig c.args.machine.now) spares waiting in
    let after = shown c.read_in_attempts.new.self (g.C.Commands.rig c.read_in_attempts.new.machine) spares waiting in
    let asked = asks_shown c.args.self.now c.is_held.new.self (g.C.Commands.rig c.args.machine.now) (g.C.Commands.rig c.is_held.new.machine) spares waiting (c.is_held.ensures.shown spares waiting) c.is_held.ensures.asks in
    reads_drive before c.args.bay c.args.key c.args.address c.read_in_attempts.result after
    (sym c.is_sector_request.ensures.value ∙ c.if-not-is_sector_request.false)
    (ap (crosses_page c.args.address) (sym c.sector_size.ensures.size) ∙ sym c.crosses_page.ensures ∙ c.if-crosses_page.false)
    (acknowledged_held c.args.self.now (g.C.Commands.rig c.args.machine.now) spares waiting c.args.bay ∙ sym c.is_held.ensures.held ∙ c.if-not-is_held.false)
    (c.read_in_attempts.ensures.step before spares waiting asked (question_costs c.args.bay 2 (g.C.Commands.rig c.args.machine.now) (g.C.Commands.rig c.is_held.new.machine) (omega arith) c.is_held.ensures.costs))
