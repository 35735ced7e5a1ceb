use Rattle.std.proofs.Common.{refl}
use Rattle.fdc_chip.proofs.Common.{chip_state}
use Rattle.fdc_chip.proofs.Leaping.{sent_runs}
use Rattle.fdc_chip.proofs.Runs.{runs_none}
use Rattle.fdc_chip.proofs.chip.Chip.leap.Goals as goal

pub returns-then-has_sent-clause-runs : goal.returns-then-has_sent-clause-runs
returns-then-has_sent-clause-runs g c =
    sent_runs _ _ c.leap.result (chip_state g.D.Drive.state c.args.self.now) _ (c.has_sent.ensures c.if-has_sent.true) (refl, refl) c.leap.ensures.leaps

pub returns-clause-runs : goal.returns-clause-runs
returns-clause-runs g c = runs_none _ _ _
