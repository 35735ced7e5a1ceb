use Rattle.std.proofs.Common.{sym, ap, ◌∙◌, Some, ◌≡◌}
use Rattle.fdc_core.proofs.Common.{needs_byte, byte_taken, without_byte}
use Rattle.fdc_core.proofs.Words.{wrote_time}
use Rattle.fdc_core.proofs.controller.Fdc.go_on_window.Goals as goal

pub returns-in-Some : goal.returns-in-Some
returns-in-Some g c =
    let old = c.args.self.now in
    let writing = c.args.writing in
    let takes : byte_taken (needs_byte writing.stage) writing.counted old.fifo ≡ Some c.in-Some.byte = ap (λ needs. byte_taken needs writing.counted old.fifo) (sym c.needs_byte.ensures.is) ∙ sym c.take_byte_for.ensures.byte ∙ c.in-Some.is in
    let leaves : c.take_byte_for.new.self ≡ without_byte (needs_byte writing.stage) old = c.take_byte_for.ensures.after ∙ ap (λ needs. without_byte needs old) c.needs_byte.ensures.is in
    wrote_time c.args.head_drive c.args.steps c.in-Some.byte writing old c.take_byte_for.new.self (g.D.Drive.state c.args.drive.now) (g.D.Drive.state c.put_word.new.drive) c.put_word.new.self c.requires.few c.requires.fits c.requires.due takes leaves c.put_word.ensures
