use Rattle.std.proofs.Common.{sym, ◌∙◌}
use Rattle.fdc_core.proofs.Coursing.{reading_courses}
use Rattle.fdc_core.proofs.controller.Fdc.skim_reading.Goals as goal

pub returns-in-Search-clause-courses : goal.returns-in-Search-clause-courses
returns-in-Search-clause-courses g c =
    reading_courses c.args.self.now c.in-Execute.execution c.in-Read.reading c.in-Search.search c.pass_many.new.search c.pass_many.result c.pass_many.new.steps (g.D.Drive.state c.args.drive.now) (g.D.Drive.state c.pass_many.new.drive) c.requires.quiet (sym c.wants.ensures ∙ c.if-wants.false) c.requires.fits c.in-Execute.is c.in-Read.is c.in-Search.is c.pass_many.ensures.passes
