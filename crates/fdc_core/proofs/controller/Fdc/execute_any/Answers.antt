use Rattle.std.proofs.Common.{sym, ap, subst, ◌∙◌, arith}
use Rattle.fdc_core.proofs.Common.{ExecutionSteps, IsWritingAt, Execute, IsFormattingAt}
use Rattle.fdc_core.proofs.Words.{heard_time, heard_index}
use Rattle.fdc_core.proofs.controller.Fdc.execute_any.Goals as goal

pub returns-then-only_hears : goal.returns-then-only_hears
returns-then-only_hears g c =
    let old = c.args.self.now in
    let now = c.in-Execute.execution in
    let writing = c.in-Write.writing in
    let before = g.D.Drive.state c.args.drive.now in
    let after = g.D.Drive.state c.hear_writing.new.drive in
    let new = c.hear_writing.new.self in
    let at : IsWritingAt now.head_drive now.steps writing old.phase = c.in-Execute.is ∙ ap (λ task. Execute (record { head_drive = now.head_drive; steps = now.steps; task = task })) c.in-Write.is in
    let only = c.only_hears.ensures c.if-only_hears.true in
    subst (λ phase. ExecutionSteps phase old before after new) (sym at)
    (record { does = heard_time now.head_drive now.steps writing old before after new only.2 (c.hear_writing.ensures now.steps writing at); guards = λ first protects. let some = only.0 in absurd (omega arith) })

pub returns-then-only_hears-2 : goal.returns-then-only_hears-2
returns-then-only_hears-2 g c =
    let old = c.args.self.now in
    let now = c.in-Execute.execution in
    let formatting = c.in-Format.formatting in
    let before = g.D.Drive.state c.args.drive.now in
    let after = g.D.Drive.state c.hear_formatting.new.drive in
    let new = c.hear_formatting.new.self in
    let at : IsFormattingAt now.head_drive now.steps formatting old.phase = c.in-Execute.is ∙ ap (λ task. Execute (record { head_drive = now.head_drive; steps = now.steps; task = task })) c.in-Format.is in
    let only = c.only_hears-in-Format.ensures c.if-only_hears-2.true in
    subst (λ phase. ExecutionSteps phase old before after new) (sym at)
    (record { does = heard_index now.head_drive now.steps formatting old before after new only.2 (c.hear_formatting.ensures now.steps formatting at); guards = λ first protects. let some = only.0 in absurd (omega arith) })
