use Rattle.std.proofs.Common.{◌≡◌, ℕ, ◌+◌, ◌*◌, arith, sym, ap, ◌∙◌, subst}
use Rattle.floppy_driver.proofs.Common.{Driver, notes_of, with_notes}
use Rattle.floppy_driver.proofs.Rounds.{HasStayedSet}
use Rattle.floppy_driver.proofs.Lasting.{costs_on, costs_for}
use Rattle.floppy_driver.proofs.Acked.{attached_unready, acks_unready, attached_acked, acks_done}
use Rattle.floppy_driver.proofs.driver.Driver.ack.Goals as goal

pub returns-then-not-is_changed-clause-costs : goal.returns-then-not-is_changed-clause-costs
returns-then-not-is_changed-clause-costs g c =
    let spent = 6250 + c.loop-attempt._attempt * 405 in
    let made = 1 + c.loop-attempt._attempt * 33 in
    costs_for c.args.bay 12 12 (spent + (405 + (0 + 1566))) 9031 (made + (31 + (2 + 72))) 172 _ _ (omega arith) (omega arith) (omega arith)
    (costs_on c.args.bay 0 12 spent (405 + (0 + 1566)) made (31 + (2 + 72)) _ _ _ c.loop-attempt.invariant.cost
    (costs_on c.args.bay 0 12 405 (0 + 1566) 31 (2 + 72) _ _ _ c.clear_change-reached.ensures.costs
    (costs_on c.args.bay 0 12 0 1566 2 72 _ _ _ c.is_changed.ensures.costs c.hold.ensures.costs)))

pub returns-clause-costs : goal.returns-clause-costs
returns-clause-costs g c =
    costs_for c.args.bay 0 12 (6250 + c.loop-attempt._attempt * 405) 9031 (1 + c.loop-attempt._attempt * 33) 172 _ _ (omega arith) (omega arith) (omega arith) c.loop-attempt.invariant.cost

pub returns-then-not-is_changed-clause-step : goal.returns-then-not-is_changed-clause-step
returns-then-not-is_changed-clause-step g c =
    acks_done c.args.self.now c.hold.new.self (g.C.Commands.rig c.args.machine.now) c.args.bay c.loop-attempt._attempt (notes_of c.hold.new.self c.args.bay) c.if-bay-gt1.false
    (c.hold.ensures.notes ∙ ap (λ (d : Driver). with_notes d c.args.bay (notes_of c.hold.new.self c.args.bay)) c.loop-attempt.invariant.same)
    c.requires.attached (g.C.Commands.rig c.loop-attempt.machine) c.loop-attempt.invariant.stayed c.clear_change-reached.result (g.C.Commands.rig c.clear_change-reached.new.machine) c.clear_change-reached.ensures.clears
    (g.C.Commands.rig c.is_changed.new.self) c.is_changed.ensures.asks (sym c.is_changed.ensures.line ∙ c.if-not-is_changed.true) c.is_changed.ensures.sound
    (g.C.Commands.rig c.hold.new.machine) c.hold.ensures.held (returns-then-not-is_changed-clause-costs g c)

pub returns-then-not-is_changed-clause-attached : goal.returns-then-not-is_changed-clause-attached
returns-then-not-is_changed-clause-attached g c =
    attached_acked c.args.self.now c.hold.new.self (g.C.Commands.rig c.args.machine.now) c.args.bay c.loop-attempt._attempt (notes_of c.hold.new.self c.args.bay) c.if-bay-gt1.false
    (c.hold.ensures.notes ∙ ap (λ (d : Driver). with_notes d c.args.bay (notes_of c.hold.new.self c.args.bay)) c.loop-attempt.invariant.same)
    c.requires.attached (g.C.Commands.rig c.loop-attempt.machine) c.loop-attempt.invariant.stayed c.clear_change-reached.result (g.C.Commands.rig c.clear_change-reached.new.machine) c.clear_change-reached.ensures.clears
    (g.C.Commands.rig c.is_changed.new.self) c.is_changed.ensures.asks (sym c.is_changed.ensures.line ∙ c.if-not-is_changed.true) c.is_changed.ensures.sound
    (g.C.Commands.rig c.hold.new.machine) c.hold.ensures.held

pub returns-clause-step : goal.returns-clause-step
returns-clause-step g c = λ spares waiting.
    let all : c.loop-attempt._attempt ≡ 3 = omega arith in
    acks_unready c.args.self.now c.set_notes.new.self (g.C.Commands.rig c.args.machine.now) c.args.bay (g.C.Commands.rig c.loop-attempt.machine) c.new.result c.if-bay-gt1.false
    (c.set_notes.ensures ∙ ap (λ (d : Driver). with_notes d c.args.bay c.new.result) c.loop-attempt.invariant.same)
    c.new.ensures.gate c.new.ensures.known c.requires.attached
    (subst (λ (n : ℕ). HasStayedSet c.args.bay n (g.C.Commands.rig c.args.machine.now) (g.C.Commands.rig c.loop-attempt.machine)) all c.loop-attempt.invariant.stayed) spares waiting (returns-clause-costs g c)

pub returns-clause-attached : goal.returns-clause-attached
returns-clause-attached g c =
    let all : c.loop-attempt._attempt ≡ 3 = omega arith in
    attached_unready c.args.self.now c.set_notes.new.self (g.C.Commands.rig c.args.machine.now) c.args.bay (g.C.Commands.rig c.loop-attempt.machine) c.new.result c.if-bay-gt1.false
    (c.set_notes.ensures ∙ ap (λ (d : Driver). with_notes d c.args.bay c.new.result) c.loop-attempt.invariant.same)
    c.new.ensures.gate c.new.ensures.known c.requires.attached
    (subst (λ (n : ℕ). HasStayedSet c.args.bay n (g.C.Commands.rig c.args.machine.now) (g.C.Commands.rig c.loop-attempt.machine)) all c.loop-attempt.invariant.stayed)
