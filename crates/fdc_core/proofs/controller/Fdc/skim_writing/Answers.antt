use Rattle.std.proofs.Common.{sym, ◌∙◌, arith}
use Rattle.fdc_core.proofs.Coursing.{writing_courses}
use Rattle.fdc_core.proofs.controller.Fdc.skim_writing.Goals as goal

pub returns-in-Search-clause-courses : goal.returns-in-Search-clause-courses
returns-in-Search-clause-courses g c =
    writing_courses c.args.self.now c.in-Execute.execution c.in-Write.writing c.in-Search.search c.pass_many.new.search c.pass_many.result c.pass_many.new.steps (g.D.Drive.state c.args.drive.now) (g.D.Drive.state c.pass_many.new.drive) c.requires.quiet (sym c.wants-asks.ensures ∙ c.if-asks.false) (omega (arith, c.if-execution-eq0.false)) c.requires.fits c.in-Execute.is c.in-Write.is c.in-Search.is c.pass_many.ensures.passes
