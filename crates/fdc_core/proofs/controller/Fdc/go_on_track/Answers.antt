use Rattle.std.proofs.Common.{sym, ◌∙◌, Some, ◌≡◌}
use Rattle.fdc_core.proofs.Common.{byte_taken}
use Rattle.fdc_core.proofs.Words.{laid_time, missed_time}
use Rattle.fdc_core.proofs.controller.Fdc.go_on_track.Goals as goal

pub returns-in-Some : goal.returns-in-Some
returns-in-Some g c =
    let old = c.args.self.now in
    let formatting = c.args.formatting in
    let needs = c.needs_byte-takes.result in
    let takes : byte_taken needs formatting.counted old.fifo ≡ Some c.in-Some.byte = sym c.take_byte_for.ensures.byte ∙ c.in-Some.is in
    laid_time c.args.head_drive c.args.steps c.in-Some.byte needs formatting old c.take_byte_for.new.self (g.D.Drive.state c.args.drive.now) (g.D.Drive.state c.lay_word.new.drive) c.lay_word.new.self c.requires.few c.requires.fits c.requires.due (c.needs_byte-takes.ensures.takes c.requires.due) c.needs_byte-takes.ensures.lead takes c.take_byte_for.ensures.after (c.lay_word.ensures needs)

pub returns-in-None : goal.returns-in-None
returns-in-None g c =
    missed_time c.args.head_drive c.args.steps c.needs_byte-takes.result c.args.formatting c.args.self.now c.take_byte_for.new.self (g.D.Drive.state c.args.drive.now) (g.D.Drive.state c.stop.new.drive) c.stop.new.self c.requires.few c.requires.due (c.needs_byte-takes.ensures.takes c.requires.due) c.needs_byte-takes.ensures.lead (sym c.take_byte_for.ensures.byte ∙ c.in-None.is) c.take_byte_for.ensures.after c.stop.ensures.drive c.stop.ensures.state
