use Rattle.std.proofs.Common.{sym, ap, ◌∙◌, ◌≡◌, true, false}
use Rattle.fdc_core.proofs.Common.{DriveState, rate_of, rate_fits}
use Rattle.fdc_core.proofs.Words.{kept_index, opens_laid}
use Rattle.fdc_core.proofs.controller.Fdc.open_track.Goals as goal

pub go_on_track-requires : goal.go_on_track-requires
go_on_track-requires g c =
    let before : DriveState = g.D.Drive.state c.args.drive.now in
    let fits : rate_fits c.args.self.now.rate (rate_of before.medium) ≡ true = ap (rate_fits c.args.self.now.rate) (sym c.rate.ensures) ∙ sym c.fits.ensures ∙ c.if-fits.true in
    record { few = c.requires.few; fits = λ _. fits; due = opens_laid c.args.formatting.stage.part c.requires.opens }

pub returns-else-fits : goal.returns-else-fits
returns-else-fits g c =
    let before : DriveState = g.D.Drive.state c.args.drive.now in
    let unfit : rate_fits c.args.self.now.rate (rate_of before.medium) ≡ false = ap (rate_fits c.args.self.now.rate) (sym c.rate.ensures) ∙ sym c.fits.ensures ∙ c.if-fits.false in
    kept_index c.args.head_drive c.args.steps c.args.formatting c.args.self.now before (g.D.Drive.state c.hear_formatting.new.drive) c.hear_formatting.new.self c.requires.opens unfit (c.hear_formatting.ensures c.args.steps c.args.formatting c.requires.at)
