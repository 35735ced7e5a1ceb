use Rattle.std.proofs.Common.{rules, arith, ap, ◌∙◌, Some, None}
use Rattle.floppy_driver.proofs.Common.{common_steps, Notes, notes_of, with_notes}
use Rattle.floppy_driver.proofs.Prepared.{attached_lost, attached_ready}
use Rattle.floppy_driver.proofs.driver.Driver.prepare.Goals as goal

pub returns-then-not-go_to_track_0-clause-attached : goal.returns-then-not-go_to_track_0-clause-attached
returns-then-not-go_to_track_0-clause-attached g c =
    attached_lost c.args.self.now c.set_notes.new.self (g.C.Commands.rig c.args.machine.now) (g.C.Commands.rig c.go_to_track_0.new.machine) c.args.bay c.requires.bay c.requires.held
    c.go_to_track_0.ensures.goes.moves c.requires.attached
    (c.set_notes.ensures ∙ ap (λ (n : Notes). with_notes c.args.self.now c.args.bay (record n { known = None })) c.notes-notes.ensures)

pub returns-clause-prepared : goal.returns-clause-prepared
returns-clause-prepared g c = first_of (search rules, grind (arith, common_steps))

pub returns-clause-attached : goal.returns-clause-attached
returns-clause-attached g c =
    let prepared = returns-clause-prepared g c in
    attached_ready c.args.self.now c.set_notes-2.new.self (g.C.Commands.rig c.args.machine.now) (g.C.Commands.rig c.seek.new.self) c.args.bay c.requires.bay c.requires.held
    prepared.moves c.requires.attached c.args.target c.args.way (notes_of c.set_notes-2.new.self c.args.bay) c.requires.target c.requires.known
    (c.set_notes-2.ensures ∙ ap (λ (n : Notes). with_notes c.args.self.now c.args.bay (record n { known = Some c.args.target })) c.notes-notes.ensures)
    prepared
