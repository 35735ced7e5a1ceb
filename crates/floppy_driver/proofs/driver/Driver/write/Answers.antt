use Rattle.std.proofs.Common.{refl, sym, ap, ◌∙◌, arith}
use Rattle.floppy_driver.proofs.Common.{crosses_page, shown}
use Rattle.floppy_driver.proofs.Shows.{acknowledged_held, asks_shown}
use Rattle.floppy_driver.proofs.Lasting.{question_costs, questions_cost}
use Rattle.floppy_driver.proofs.Asking.{refused_asking}
use Rattle.floppy_driver.proofs.FormatReady.{can_write_asked}
use Rattle.floppy_driver.proofs.WriteStep.{asked_twice, protection_shown, writes_refused, writes_protected, writes_drive}
use Rattle.floppy_driver.proofs.driver.Driver.write.Goals as goal

pub returns-then-not-is_held-clause-step : goal.returns-then-not-is_held-clause-step
returns-then-not-is_held-clause-step g c = λ spares waiting.
    let before = shown c.args.self.now (g.C.Commands.rig c.args.machine.now) spares waiting in
    let after = shown c.is_held.new.self (g.C.Commands.rig c.is_held.new.machine) spares waiting in
    let asked = asks_shown c.args.self.now c.is_held.new.self (g.C.Commands.rig c.args.machine.now) (g.C.Commands.rig c.is_held.new.machine) spares waiting (c.is_held.ensures.shown spares waiting) c.is_held.ensures.asks in
    writes_refused before c.args.bay c.args.key c.args.address c.args.deleted _ after
    (sym c.is_sector_request.ensures.value ∙ c.if-not-is_sector_request.false)
    (ap (crosses_page c.args.address) (sym c.sector_size.ensures.size) ∙ sym c.crosses_page.ensures ∙ c.if-crosses_page.false)
    (acknowledged_held c.args.self.now (g.C.Commands.rig c.args.machine.now) spares waiting c.args.bay ∙ sym c.is_held.ensures.held ∙ c.if-not-is_held.true)
    (refused_asking before _ after asked (question_costs c.args.bay 2 (g.C.Commands.rig c.args.machine.now) (g.C.Commands.rig c.is_held.new.machine) (omega arith) c.is_held.ensures.costs))

pub returns-then-is_protected-clause-step : goal.returns-then-is_protected-clause-step
returns-then-is_protected-clause-step g c = λ spares waiting.
    let rig = g.C.Commands.rig c.is_held.new.machine in
    let later = g.C.Commands.rig c.is_protected.new.self in
    let before = shown c.args.self.now (g.C.Commands.rig c.args.machine.now) spares waiting in
    let middle = shown c.is_held.new.self rig spares waiting in
    let after = shown c.is_held.new.self later spares waiting in
    let first = asks_shown c.args.self.now c.is_held.new.self (g.C.Commands.rig c.args.machine.now) rig spares waiting (c.is_held.ensures.shown spares waiting) c.is_held.ensures.asks in
    let second = asks_shown c.is_held.new.self c.is_held.new.self rig later spares waiting refl c.is_protected.ensures.asks in
    writes_protected before c.args.bay c.args.key c.args.address c.args.deleted _ after
    (sym c.is_sector_request.ensures.value ∙ c.if-not-is_sector_request.false)
    (ap (crosses_page c.args.address) (sym c.sector_size.ensures.size) ∙ sym c.crosses_page.ensures ∙ c.if-crosses_page.false)
    (acknowledged_held c.args.self.now (g.C.Commands.rig c.args.machine.now) spares waiting c.args.bay ∙ sym c.is_held.ensures.held ∙ c.if-not-is_held.false)
    (protection_shown c.args.self.now (g.C.Commands.rig c.args.machine.now) spares waiting c.args.bay rig c.is_held.ensures.asks ∙ sym c.is_protected.ensures.line ∙ c.if-is_protected.true)
    (refused_asking before _ after (asked_twice before middle after first second)
    (questions_cost c.args.bay (g.C.Commands.rig c.args.machine.now) rig later c.is_held.ensures.costs c.is_protected.ensures.costs))

pub write_in_attempts-requires-clause-ready : goal.write_in_attempts-requires-clause-ready
write_in_attempts-requires-clause-ready g c =
    can_write_asked c.is_held.new.self (g.C.Commands.rig c.is_held.new.machine) (g.C.Commands.rig c.is_protected.new.self) c.args.bay
    (c.is_held.ensures.ready c.if-not-is_held.false) c.is_protected.ensures.asks c.is_protected.ensures.sound (sym c.is_protected.ensures.line ∙ c.if-is_protected.false)

pub returns-clause-step : goal.returns-clause-step
returns-clause-step g c = λ spares waiting.
    let rig = g.C.Commands.rig c.is_held.new.machine in
    let later = g.C.Commands.rig c.is_protected.new.self in
    let before = shown c.args.self.now (g.C.Commands.rig c.args.machine.now) spares waiting in
    let middle = shown c.is_held.new.self rig spares waiting in
    let asked = shown c.is_held.new.self later spares waiting in
    let after = shown c.write_in_attempts.new.self (g.C.Commands.rig c.write_in_attempts.new.machine) spares waiting in
    let first = asks_shown c.args.self.now c.is_held.new.self (g.C.Commands.rig c.args.machine.now) rig spares waiting (c.is_held.ensures.shown spares waiting) c.is_held.ensures.asks in
    let second = asks_shown c.is_held.new.self c.is_held.new.self rig later spares waiting refl c.is_protected.ensures.asks in
    writes_drive before c.args.bay c.args.key c.args.address c.args.deleted c.write_in_attempts.result after
    (sym c.is_sector_request.ensures.value ∙ c.if-not-is_sector_request.false)
    (ap (crosses_page c.args.address) (sym c.sector_size.ensures.size) ∙ sym c.crosses_page.ensures ∙ c.if-crosses_page.false)
    (acknowledged_held c.args.self.now (g.C.Commands.rig c.args.machine.now) spares waiting c.args.bay ∙ sym c.is_held.ensures.held ∙ c.if-not-is_held.false)
    (protection_shown c.args.self.now (g.C.Commands.rig c.args.machine.now) spares waiting c.args.bay rig c.is_held.ensures.asks ∙ sym c.is_protected.ensures.line ∙ c.if-is_protected.false)
    (c.write_in_attempts.ensures.step before spares waiting (asked_twice before middle asked first second)
    (questions_cost c.args.bay (g.C.Commands.rig c.args.machine.now) rig later c.is_held.ensures.costs c.is_protected.ensures.costs))
