use Rattle.std.proofs.Common.{true, Ok, Err}
use Rattle.floppy_driver.proofs.Common.{err_from_is_err_and, sectors_at, track_under, format_of, IsBlankUnder, HoldsRecords, goes_on_after, notes_of}
use Rattle.floppy_driver.specs.declared.retry_plan.Prepare.TheVariants as prepare
use Rattle.floppy_driver.proofs.FormatOnce.{lost_attempt, refused_attempt, read_attempt}
use Rattle.floppy_driver.proofs.FormatReady.{can_write_prepared, can_write_formatted, can_write_read}
use Rattle.floppy_driver.proofs.driver.Driver.format_once.Goals as goal

pub returns-then-not-prepare-clause-formats : goal.returns-then-not-prepare-clause-formats
returns-then-not-prepare-clause-formats g c =
    lost_attempt (g.C.Commands.rig c.args.machine.now) (notes_of c.args.self.now c.args.bay) c.args.bay (format_of c.args.asked)
    (g.C.Commands.rig c.prepare.new.machine) (notes_of c.prepare.new.self c.args.bay) c.if-not-prepare.ensures.prepared

pub returns-in_err-format-clause-formats : goal.returns-in_err-format-clause-formats
returns-in_err-format-clause-formats g c =
    let p = err_from_is_err_and c.from_residual.result c.from_residual.ensures.1 in
    let step = c.in_err-format.ensures.step in
    rw (p.1, p.2)
    (refused_attempt (g.C.Commands.rig c.args.machine.now) (g.C.Commands.rig c.prepare.new.machine) (g.C.Commands.rig c.format.new.self)
    (notes_of c.args.self.now c.args.bay) (notes_of c.prepare.new.self c.args.bay) c.args.bay (format_of c.args.asked)
    c.if-not-prepare.ensures.prepared c.prepare.ensures.sound step.0 c.in_err-format.field-0.0 step.1)

pub returns-in_err-format-clause-can : goal.returns-in_err-format-clause-can
returns-in_err-format-clause-can g c =
    let step = c.in_err-format.ensures.step in
    let middle = g.C.Commands.rig c.prepare.new.machine in
    can_write_formatted c.prepare.new.self middle (g.C.Commands.rig c.format.new.self) c.args.bay
    (can_write_prepared c.args.self.now c.prepare.new.self (g.C.Commands.rig c.args.machine.now) middle c.args.bay c.args.asked.c prepare.RecalibrateAndSeek true
    c.requires.can c.prepare.ensures.notes c.if-not-prepare.ensures.prepared c.prepare.ensures.attached c.prepare.ensures.sound)
    c.format.ensures.sound (format_of c.args.asked) (Err c.in_err-format.field-0.0) step.0 step.1

pub returns-clause-formats : goal.returns-clause-formats
returns-clause-formats g c =
    let step = c.in_ok-format.ensures.step in
    read_attempt (g.C.Commands.rig c.args.machine.now) (g.C.Commands.rig c.prepare.new.machine) (g.C.Commands.rig c.format.new.self)
    (notes_of c.args.self.now c.args.bay) (notes_of c.prepare.new.self c.args.bay) c.args.bay (format_of c.args.asked)
    c.if-not-prepare.ensures.prepared c.prepare.ensures.sound step.0 step.1 c.requires.asked c.read_back_all.result
    (g.C.Commands.rig c.read_back_all.new.machine) c.read_back_all.ensures.reads

pub returns-clause-can : goal.returns-clause-can
returns-clause-can g c =
    let step = c.in_ok-format.ensures.step in
    let middle = g.C.Commands.rig c.prepare.new.machine in
    let laid = g.C.Commands.rig c.format.new.self in
    let asked = c.args.asked in
    can_write_read c.prepare.new.self laid (g.C.Commands.rig c.read_back_all.new.machine) c.args.bay
    (can_write_formatted c.prepare.new.self middle laid c.args.bay
    (can_write_prepared c.args.self.now c.prepare.new.self (g.C.Commands.rig c.args.machine.now) middle c.args.bay asked.c prepare.RecalibrateAndSeek true
    c.requires.can c.prepare.ensures.notes c.if-not-prepare.ensures.prepared c.prepare.ensures.attached c.prepare.ensures.sound)
    c.format.ensures.sound (format_of asked) (Ok c.in_ok-format.field-0) step.0 step.1)
    c.read_back_all.ensures.sound (sectors_at asked.rate)
    (IsBlankUnder laid c.args.bay asked.rate asked.h)
    (HoldsRecords (track_under laid c.args.bay asked.rate asked.h) asked.c asked.h (sectors_at asked.rate) asked.fill)
    c.read_back_all.result c.read_back_all.ensures.reads

pub returns-clause-counts : goal.returns-clause-counts
returns-clause-counts g c =
    goes_on_after _ _ _ (goes_on_after _ _ _ c.if-not-prepare.ensures.prepared.moves.counts c.in_ok-format.ensures.step.1.sends.counts) c.read_back_all.ensures.reads.counts
