use Rattle.std.proofs.Common.{◌≡◌, sym, ap, subst, ◌∙◌}
use Rattle.fdc_core.proofs.Common.{Writes, Execute, Write, Format, ExecutionSteps}
use Rattle.fdc_core.proofs.Laid.{laid_on}
use Rattle.fdc_core.proofs.Coursing.{steps_same}
use Rattle.fdc_core.proofs.controller.Fdc.lay_on.Goals as goal

pub returns-in-Some : goal.returns-in-Some
returns-in-Some g c =
    let old = c.args.self.now in
    let now = c.in-Execute.execution in
    let formatting = c.in-Format.formatting in
    let before = g.D.Drive.state c.args.drive.now in
    let mid = g.D.Drive.state c.write_word-index.new.self in
    let after = g.D.Drive.state c.follow_laid.new.drive in
    let new = c.follow_laid.new.self in
    let word = c.lay-word.result in
    let at : old.phase ≡ Execute (record { head_drive = now.head_drive; steps = now.steps; task = Format formatting }) = c.in-Execute.is ∙ ap (λ task. Execute (record { head_drive = now.head_drive; steps = now.steps; task = task })) c.in-Format.is in
    subst (λ phase. ExecutionSteps phase old before after new) (sym at)
    (laid_on now.head_drive now.steps c.in-Some.byte word c.needs_byte-needs.result c.write_word-index.result formatting c.lay-word.new.self c.end-over.result c.take_byte.new.fifo old before mid after new (c.lays_on.ensures c.if-lays_on.true)
    (record { takes = c.needs_byte-needs.ensures.takes; lead = c.needs_byte-needs.ensures.lead; byte_is = sym c.take_byte.ensures.byte ∙ c.in-Some.is; after = c.take_byte.ensures.after })
    (record { writes = c.lay-word.ensures.writes; lead = c.lay-word.ensures.lead; part = c.lay-word.ensures.part })
    (record { writes = subst (λ head. Writes head word before mid) c.head_of.ensures c.write_word-index.ensures.writes; index_is = c.write_word-index.ensures.index; range_before = c.write_word-index.ensures.range_before; range = c.write_word-index.ensures.range })
    (record { goes_on = c.end-over.ensures.goes_on; well = c.end-over.ensures.well; lead = c.end-over.ensures.lead })
    c.follow_laid.ensures.state c.follow_laid.ensures.drive)

pub returns-else-lays_on : goal.returns-else-lays_on
returns-else-lays_on g c =
    let now = c.in-Execute.execution in
    let at = c.in-Execute.is ∙ ap (λ task. Execute (record { head_drive = now.head_drive; steps = now.steps; task = task })) c.in-Format.is in
    let rare = c.execute_rare in
    steps_same c.args.self.now rare.new.self (g.D.Drive.state c.args.drive.now) (g.D.Drive.state rare.new.drive) (Execute (record { head_drive = now.head_drive; steps = now.steps; task = Format c.in-Format.formatting })) at rare.ensures

pub returns-in-Write : goal.returns-in-Write
returns-in-Write g c =
    let now = c.in-Execute.execution in
    let at = c.in-Execute.is ∙ ap (λ task. Execute (record { head_drive = now.head_drive; steps = now.steps; task = task })) c.in-Write.is in
    let rare = c.execute_rare-in-Write in
    steps_same c.args.self.now rare.new.self (g.D.Drive.state c.args.drive.now) (g.D.Drive.state rare.new.drive) (Execute (record { head_drive = now.head_drive; steps = now.steps; task = Write c.in-Write.writing })) at rare.ensures
