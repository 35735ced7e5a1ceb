use Rattle.std.proofs.Common.{ap, ◌∙◌}
use Rattle.std.specs.Prelude.{is_some}
use Rattle.floppy_driver.proofs.Common.{goes_on_after, Notes}
use Rattle.floppy_driver.proofs.Shows.{attached_same}
use Rattle.floppy_driver.proofs.Attempts.{prepared_ready, can_try_stays}
use Rattle.floppy_driver.proofs.ReadOnce.{tries_read}
use Rattle.floppy_driver.proofs.driver.Driver.read_once.Goals as goal

pub returns-clause-step : goal.returns-clause-step
returns-clause-step g c = λ spares waiting.
    tries_read c.args.self.now c.prepare.new.self (g.C.Commands.rig c.args.machine.now) (g.C.Commands.rig c.prepare.new.machine) c.args.bay c.args.key c.args.address c.preparation-way.result spares waiting
    c.requires.ready c.prepare.ensures.notes (g.C.Commands.rig c.read.new.self) c.args.self.now.tries c.args.attempt c.read.result c.notes-notes.result.rate
    (ap (λ (n : Notes). n.rate) c.notes-notes.ensures) c.is_some.result (c.is_some.ensures ∙ ap (λ (n : Notes). is_some n.known) c.notes-notes.ensures) c.preparation-way.ensures
    c.if-not-prepare.ensures.prepared c.read.ensures.step

pub returns-clause-counts : goal.returns-clause-counts
returns-clause-counts g c = goes_on_after _ _ _ c.prepare.ensures.prepared.moves.counts c.read.ensures.step.sends.counts

pub returns-clause-ready : goal.returns-clause-ready
returns-clause-ready g c =
    let mid = g.C.Commands.rig c.prepare.new.machine in
    let new = g.C.Commands.rig c.read.new.self in
    let sends = c.read.ensures.step.sends in
    can_try_stays c.prepare.new.self mid new c.args.bay
    (prepared_ready c.args.self.now c.prepare.new.self (g.C.Commands.rig c.args.machine.now) mid c.args.bay _ _ _ c.requires.ready c.prepare.ensures.notes c.prepare.ensures.prepared c.prepare.ensures.attached c.prepare.ensures.sound)
    sends.heads (attached_same c.prepare.new.self mid new sends.heads sends.media sends.counts c.prepare.ensures.attached) c.read.ensures.sound
