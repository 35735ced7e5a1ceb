use Rattle.floppy_driver.proofs.Common.{goes_on_after}
use Rattle.floppy_driver.proofs.WriteAttempts.{tries_once, can_write_once}
use Rattle.floppy_driver.proofs.driver.Driver.write_once.Goals as goal

pub returns-clause-attempt : goal.returns-clause-attempt
returns-clause-attempt g c =
    tries_once c.args.self.now c.prepare.new.self (g.C.Commands.rig c.args.machine.now) (g.C.Commands.rig c.prepare.new.machine) c.args.bay _ _ _ _ c.args.address _ _ _ _ _ _
    c.requires.ready c.prepare.ensures.notes c.prepare.ensures.prepared c.notes-notes.ensures c.is_some.ensures c.preparation-way.ensures c.if-not-prepare.false c.write_checked.ensures.checked

pub returns-clause-ready : goal.returns-clause-ready
returns-clause-ready g c =
    can_write_once c.args.self.now _ (g.C.Commands.rig c.args.machine.now) (g.C.Commands.rig c.prepare.new.machine) _ _ _ _ _ _ _ _
    c.requires.ready c.prepare.ensures.notes c.prepare.ensures.prepared c.prepare.ensures.attached c.prepare.ensures.sound c.write_checked.ensures.checked c.write_checked.ensures.sound

pub returns-clause-counts : goal.returns-clause-counts
returns-clause-counts g c = goes_on_after _ _ _ c.prepare.ensures.prepared.moves.counts c.write_checked.ensures.checked.counts
