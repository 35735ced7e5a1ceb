use Rattle.fdc_core.proofs.Coursing.{id_courses}
use Rattle.fdc_core.proofs.controller.Fdc.skim_id.Goals as goal

pub returns-in-ReadId-clause-courses : goal.returns-in-ReadId-clause-courses
returns-in-ReadId-clause-courses g c =
    id_courses c.args.self.now c.in-Execute.execution c.in-ReadId.search c.pass_many.new.search c.pass_many.result c.pass_many.new.steps (g.D.Drive.state c.args.drive.now) (g.D.Drive.state c.pass_many.new.drive) c.requires.quiet c.requires.fits c.in-Execute.is c.in-ReadId.is c.pass_many.ensures.passes
