use Rattle.std.proofs.Common.{arith}
use Rattle.fdc_chip.proofs.Common.{chip_state}
use Rattle.fdc_chip.proofs.Quieting.{still_runs_on}
use Rattle.fdc_chip.proofs.Runs.{ready_some, runs_after}
use Rattle.fdc_chip.proofs.chip.Chip.advance.Goals as goal

pub returns-then-is_still-clause-some : goal.returns-then-is_still-clause-some
returns-then-is_still-clause-some g c = ready_some c.args.most c.run.result (chip_state g.D.Drive.state c.args.self.now).front _ c.requires c.run.ensures

pub returns-then-is_still-clause-few : goal.returns-then-is_still-clause-few
returns-then-is_still-clause-few g c = c.run.ensures.within

pub returns-then-is_still-clause-runs : goal.returns-then-is_still-clause-runs
returns-then-is_still-clause-runs g c =
    still_runs_on c.args.most c.run.result (chip_state g.D.Drive.state c.args.self.now) _ (c.is_still.ensures.still c.if-is_still.true) c.run.ensures

pub returns-then-made-ne0-clause-runs : goal.returns-then-made-ne0-clause-runs
returns-then-made-ne0-clause-runs g c = c.leap-made.ensures.runs

pub returns-clause-runs : goal.returns-clause-runs
returns-clause-runs g c =
    runs_after c.leap-made.result (chip_state g.D.Drive.state c.args.self.now) (chip_state g.D.Drive.state c.leap-made.new.self)
    (chip_state g.D.Drive.state c.step.new.self) (omega arith) c.leap-made.ensures.runs c.step.ensures
