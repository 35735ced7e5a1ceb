use Rattle.std.proofs.Common.{◌≡◌, subst, arith}
use Rattle.fdc_chip.proofs.Common.{chip_state, drained_by}
use Rattle.fdc_chip.proofs.Lists.{drained_none, drained_more}
use Rattle.fdc_chip.proofs.chip.Chip.drain.Goals as goal

pub loop-drive-init : goal.loop-drive-init
loop-drive-init g c = drained_none (chip_state g.D.Drive.state c.args.self.now)

pub loop-drive-preserved : goal.loop-drive-preserved
loop-drive-preserved g c =
    drained_more c.loop-drive._drive (chip_state g.D.Drive.state c.args.self.now) (chip_state g.D.Drive.state c.loop-drive.self) (chip_state g.D.Drive.state c.drain_one.new.self)
    c.loop-drive.invariant c.drain_one.ensures

pub returns : goal.returns
returns g c =
    let all : c.loop-drive._drive ≡ 4 = omega arith in
    subst (λ n. chip_state g.D.Drive.state c.loop-drive.self ≡ drained_by n (chip_state g.D.Drive.state c.args.self.now)) all c.loop-drive.invariant
