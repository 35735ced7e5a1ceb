use Rattle.std.proofs.Common.{sym, ◌∙◌}
use Rattle.fdc_core.specs.Drives.Lines.{selected_by}
use Rattle.fdc_core.proofs.drives.PassedTimes.{times_none, times_zero, times_one, times_still}
use Rattle.fdc_core.proofs.drives.word_times.pass_word_times.Goals as goal

pub returns-then-is_still-clause-passes : goal.returns-then-is_still-clause-passes
returns-then-is_still-clause-passes g c =
    times_still c.args.most (selected_by c.args.controller.now) c.args.controller.now
    (g.D.Drive.state c.args.first.now) (g.D.Drive.state c.args.second.now)
    (g.D.Drive.state c.let_pass.new.self) (g.D.Drive.state c.let_pass-then-is_still.new.self)
    (c.is_still.ensures.still c.if-is_still.true) c.let_pass.ensures.passes c.let_pass-then-is_still.ensures.passes

pub returns-in-0-clause-passes : goal.returns-in-0-clause-passes
returns-in-0-clause-passes g c =
    times_zero c.skim.result (selected_by c.args.controller.now) c.args.controller.now
    (g.D.Drive.state c.args.first.now) (g.D.Drive.state c.args.second.now)
    c.skim.new.controller (g.D.Drive.state c.skim.new.drive) (g.D.Drive.state c.skim.new.other)
    (sym c.selected.ensures ∙ c.in-0.is) c.skim.ensures.courses c.skim.ensures.passes

pub returns-in-1-clause-passes : goal.returns-in-1-clause-passes
returns-in-1-clause-passes g c =
    times_one c.skim-in-1.result (selected_by c.args.controller.now) c.args.controller.now
    (g.D.Drive.state c.args.first.now) (g.D.Drive.state c.args.second.now)
    c.skim-in-1.new.controller (g.D.Drive.state c.skim-in-1.new.other) (g.D.Drive.state c.skim-in-1.new.drive)
    (sym c.selected.ensures ∙ c.in-1.is) c.skim-in-1.ensures.courses c.skim-in-1.ensures.passes

pub returns-in_default-clause-passes : goal.returns-in_default-clause-passes
returns-in_default-clause-passes g c = times_none _ _ _ _
