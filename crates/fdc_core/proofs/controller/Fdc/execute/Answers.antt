use Rattle.std.proofs.Common.{◌≡◌, ◌+◌, sym, ap, subst, ◌∙◌}
use Rattle.fdc_stages.specs.declared.reading.ReadHeard.TheVariants.{On}
use Rattle.fdc_core.proofs.Common.{Execute, Read, SeesUnder, StepsOn, ExecutionSteps}
use Rattle.fdc_core.proofs.Words.{followed_is, sees, sees_fitting}
use Rattle.fdc_core.proofs.Coursing.{passed_by, heard_after, steps_same}
use Rattle.fdc_core.proofs.controller.Fdc.execute.Goals as goal

pub returns-then-pass_by : goal.returns-then-pass_by
returns-then-pass_by g c =
    let old = c.args.self.now in
    let now = c.in-Execute.execution in
    let reading = c.in-Read.reading in
    let before = g.D.Drive.state c.args.drive.now in
    let after = g.D.Drive.state c.listen-heard.new.self in
    let heard = c.listen-heard.result in
    let next = c.pass_by.new.stage in
    let new = c.follow.new.self in
    let at : old.phase ≡ Execute (record { head_drive = now.head_drive; steps = now.steps; task = Read reading }) = c.in-Execute.is ∙ ap (λ task. Execute (record { head_drive = now.head_drive; steps = now.steps; task = task })) c.in-Read.is in
    let passed = c.pass_by.ensures.passed c.if-pass_by.true in
    subst (λ phase. ExecutionSteps phase old before after new) (sym at) (record {
      word = heard.turn.word;
      sees = subst (λ head. SeesUnder old.rate head before heard.turn.word after) c.head_of.ensures
          (sees_fitting old.rate c.head_of.result heard.turn.word before after heard.rate c.listen-heard.ensures.rate passed.0 c.listen-heard.ensures.word);
      passes = c.listen-heard.ensures.becomes;
      does = subst (λ index. StepsOn now.head_drive now.steps (Read reading) index heard.turn.word old new) c.listen-heard.ensures.index
          (passed_by now.head_drive now.steps heard.turn.word heard.turn.index reading next old new (c.is_last.ensures c.if-is_last.false) passed.1 passed.2 (c.follow.ensures ∙ followed_is now.head_drive (now.steps + 1) reading next On old));
    })

pub returns-else-pass_by : goal.returns-else-pass_by
returns-else-pass_by g c =
    let old = c.args.self.now in
    let now = c.in-Execute.execution in
    let reading = c.in-Read.reading in
    let before = g.D.Drive.state c.args.drive.now in
    let after = g.D.Drive.state c.listen-heard.new.self in
    let heard = c.listen-heard.result in
    let passing = c.seen.result in
    let new = c.hear_seen.new.self in
    let at : old.phase ≡ Execute (record { head_drive = now.head_drive; steps = now.steps; task = Read reading }) = c.in-Execute.is ∙ ap (λ task. Execute (record { head_drive = now.head_drive; steps = now.steps; task = task })) c.in-Read.is in
    subst (λ phase. ExecutionSteps phase old before after new) (sym at) (record {
      word = passing.word;
      sees = subst (λ head. SeesUnder old.rate head before passing.word after) c.head_of.ensures
          (sees old.rate c.head_of.result heard.turn.word passing.word before after heard.rate c.listen-heard.ensures.rate c.seen.ensures.word c.listen-heard.ensures.word);
      passes = c.listen-heard.ensures.becomes;
      does = subst (λ index. StepsOn now.head_drive now.steps (Read reading) index passing.word old new) (c.seen.ensures.index ∙ c.listen-heard.ensures.index)
          (heard_after now.head_drive now.steps passing.word passing.index reading c.pass_by.new.stage old new (c.is_last.ensures c.if-is_last.false) (c.pass_by.ensures.others c.if-pass_by.false) at c.hear_seen.ensures);
    })

pub returns-in_default-task : goal.returns-in_default-task
returns-in_default-task g c =
    let any = c.execute_any-in_default-task in
    steps_same c.args.self.now any.new.self (g.D.Drive.state c.args.drive.now) (g.D.Drive.state any.new.drive) (Execute c.in-Execute.execution) c.in-Execute.is any.ensures
