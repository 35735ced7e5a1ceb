use Rattle.fdc_chip.proofs.Common.{chip_state}
use Rattle.fdc_chip.proofs.Runs.{ready_some, ready_runs}
use Rattle.fdc_chip.proofs.chip.Chip.advance_ready.Goals as goal

pub returns-clause-some : goal.returns-clause-some
returns-clause-some g c = ready_some c.args.most c.run-made.result (chip_state g.D.Drive.state c.args.self.now).front _ c.requires.some c.run-made.ensures

pub returns-clause-few : goal.returns-clause-few
returns-clause-few g c = c.run-made.ensures.within

pub returns-clause-runs : goal.returns-clause-runs
returns-clause-runs g c =
    ready_runs c.args.most c.run-made.result (chip_state g.D.Drive.state c.args.self.now) _ (chip_state g.D.Drive.state c.follow.new.self)
    c.requires.some c.requires.ready c.requires.stands c.requires.down c.requires.quiet c.run-made.ensures c.follow.ensures
