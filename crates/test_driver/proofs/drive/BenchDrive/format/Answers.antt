use Rattle.std.proofs.Common.{◌≡◌, None, Some, length, take, sym, ap, ◌∙◌, arith}
use Rattle.test_driver.proofs.Common.{false≢true, length-take, lay, track_keys, Format}
use Rattle.test_driver.proofs.FormatSteps.{formatted_none, formatted_laid}
use Rattle.test_driver.proofs.drive.BenchDrive.format.Goals as goal

pub returns-then-not-has_track-clause-formats : goal.returns-then-not-has_track-clause-formats
returns-then-not-has_track-clause-formats c =
    let format : Format = record { c = c.args.c; h = c.args.h; rate = c.args.rate; gap3 = c.args.gap3; fill = c.args.fill } in
    let drive = c.args.self.now in
    (None, formatted_none drive.medium drive.cylinder format (λ met. false≢true (sym c.if-not-has_track.true ∙ c.has_track.ensures.1 met)))

pub returns-clause-formats : goal.returns-clause-formats
returns-clause-formats c =
    let format : Format = record { c = c.args.c; h = c.args.h; rate = c.args.rate; gap3 = c.args.gap3; fill = c.args.fill } in
    let drive = c.args.self.now in
    let room = c.words.ensures.valid.words_per_track in
    let counted : c.from-length.result ≡ c.in-Some.medium.words_per_track = c.from-length.ensures ∙ c.words.ensures.value in
    let long : length (take c.from-length.result c.args.words.now) ≡ c.from-length.result = omega (arith, length-take c.from-length.result c.args.words.now) in (
      Some _,
      formatted_laid format c.sectors-sectors.result drive.cylinder c.sectors-sectors.ensures.value drive.medium c.in-Some.medium c.set_words.new.self c.fill_track.new.words _ c.in-Some.is
          (c.has_track.ensures.0 c.if-not-has_track.false)
          (c.fill_track.ensures ∙ ap (lay (track_keys c.sectors-sectors.result c.args.c c.args.h) 2 c.args.gap3 c.args.fill) long) counted c.set_words.ensures.becomes
          c.format_answer.result c.format_answer.ensures.fits c.format_answer.ensures.refused,
    )
