use Rattle.std.proofs.Common.{◌≡◌, sym, ap, subst, ◌∙◌}
use Rattle.fdc_core.proofs.Common.{Writes, Execute, Write, ExecutionSteps}
use Rattle.fdc_core.proofs.Put.{put_on}
use Rattle.fdc_core.proofs.Coursing.{steps_same}
use Rattle.fdc_core.proofs.controller.Fdc.put_on.Goals as goal

pub returns-in-Some : goal.returns-in-Some
returns-in-Some g c =
    let old = c.args.self.now in
    let now = c.in-Execute.execution in
    let writing = c.in-Write.writing in
    let before = g.D.Drive.state c.args.drive.now in
    let mid = g.D.Drive.state c.write_word-index.new.self in
    let after = g.D.Drive.state c.follow_put.new.drive in
    let new = c.follow_put.new.self in
    let word = c.put-word.result in
    let at : old.phase ≡ Execute (record { head_drive = now.head_drive; steps = now.steps; task = Write writing }) = c.in-Execute.is ∙ ap (λ task. Execute (record { head_drive = now.head_drive; steps = now.steps; task = task })) c.in-Write.is in
    subst (λ phase. ExecutionSteps phase old before after new) (sym at)
    (put_on now.head_drive now.steps c.in-Some.byte word c.needs_byte-needs.result c.is_last-last.result c.write_word-index.result writing c.put-word.new.self c.end-over.result c.take_byte.new.fifo old before mid after new (c.puts_on.ensures c.if-puts_on.true)
    (record { needs_is = c.needs_byte-needs.ensures.is; byte_is = sym c.take_byte.ensures.byte ∙ c.in-Some.is; after = c.take_byte.ensures.after })
    (record { last_is = c.is_last-last.ensures; writes = c.put-word.ensures.writes; lead = c.put-word.ensures.lead; opened = c.put-word.ensures.opened })
    (record { writes = subst (λ head. Writes head word before mid) c.head_of.ensures c.write_word-index.ensures.writes; index_is = c.write_word-index.ensures.index; range_before = c.write_word-index.ensures.range_before; range = c.write_word-index.ensures.range })
    (record { ends = c.end-over.ensures.ends; over_is = c.end-over.ensures.over })
    c.follow_put.ensures.state c.follow_put.ensures.drive)

pub returns-else-puts_on : goal.returns-else-puts_on
returns-else-puts_on g c =
    let now = c.in-Execute.execution in
    let at = c.in-Execute.is ∙ ap (λ task. Execute (record { head_drive = now.head_drive; steps = now.steps; task = task })) c.in-Write.is in
    let rare = c.execute_rare in
    steps_same c.args.self.now rare.new.self (g.D.Drive.state c.args.drive.now) (g.D.Drive.state rare.new.drive) (Execute (record { head_drive = now.head_drive; steps = now.steps; task = Write c.in-Write.writing })) at rare.ensures

pub returns-in_default-task : goal.returns-in_default-task
returns-in_default-task g c =
    let rare = c.execute_rare-in_default-task in
    steps_same c.args.self.now rare.new.self (g.D.Drive.state c.args.drive.now) (g.D.Drive.state rare.new.drive) (Execute c.in-Execute.execution) c.in-Execute.is rare.ensures
