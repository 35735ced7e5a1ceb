use Rattle.std.proofs.Common.{sym, ap, ◌∙◌, ◌≡◌, true, false}
use Rattle.fdc_core.proofs.Common.{DriveState, rate_of, rate_fits}
use Rattle.fdc_core.proofs.Words.{kept_time, opens_due}
use Rattle.fdc_core.proofs.controller.Fdc.open_window.Goals as goal

pub go_on_window-requires : goal.go_on_window-requires
go_on_window-requires g c =
    let before : DriveState = g.D.Drive.state c.args.drive.now in
    let fits : rate_fits c.args.self.now.rate (rate_of before.medium) ≡ true = ap (rate_fits c.args.self.now.rate) (sym c.rate.ensures) ∙ sym c.fits.ensures ∙ c.if-fits.true in
    record { few = c.requires.few; fits = λ _. fits; due = opens_due c.args.writing.stage c.requires.opens }

pub returns-else-fits : goal.returns-else-fits
returns-else-fits g c =
    let before : DriveState = g.D.Drive.state c.args.drive.now in
    let unfit : rate_fits c.args.self.now.rate (rate_of before.medium) ≡ false = ap (rate_fits c.args.self.now.rate) (sym c.rate.ensures) ∙ sym c.fits.ensures ∙ c.if-fits.false in
    kept_time c.args.head_drive c.args.steps c.args.writing c.args.self.now before (g.D.Drive.state c.hear_writing.new.drive) c.hear_writing.new.self c.requires.opens unfit (c.hear_writing.ensures c.args.steps c.args.writing c.requires.at)
