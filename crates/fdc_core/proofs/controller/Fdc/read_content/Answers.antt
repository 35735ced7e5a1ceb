use Rattle.std.proofs.Common.{◌≡◌, ap, subst, ◌∙◌}
use Rattle.fdc_core.proofs.Common.{Execute, Read, TakesMany}
use Rattle.fdc_core.proofs.Taking.{content_over}
use Rattle.fdc_core.proofs.controller.Fdc.read_content.Goals as goal

pub returns-in-Read-clause-courses : goal.returns-in-Read-clause-courses
returns-in-Read-clause-courses g c =
    let old = c.args.self.now in
    let now = c.in-Execute.execution in
    let reading = c.in-Read.reading in
    let before = g.D.Drive.state c.args.drive.now in
    let after = g.D.Drive.state c.take_many.new.drive in
    let many = c.take_many in
    let at : old.phase ≡ Execute (record { head_drive = now.head_drive; steps = now.steps; task = Read reading }) = c.in-Execute.is ∙ ap (λ task. Execute (record { head_drive = now.head_drive; steps = now.steps; task = task })) c.in-Read.is in
    content_over now.head_drive reading old c.requires.quiet many.result now.steps many.new.steps many.new.stage many.new.fifo before after c.requires.fits at
    (subst (λ head. TakesMany head now.steps many.new.steps many.result reading.counted reading.stage many.new.stage old.fifo many.new.fifo before after) c.head_of-head.ensures many.ensures.takes)
