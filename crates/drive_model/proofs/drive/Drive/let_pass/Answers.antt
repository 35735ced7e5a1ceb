use Rattle.drive_model.proofs.Passing.{lets_pass_none, lets_pass_more}
use Rattle.drive_model.proofs.drive.Drive.let_pass.Goals as goal

pub loop-i-init : goal.loop-i-init
loop-i-init g c = lets_pass_none _

pub loop-i-preserved : goal.loop-i-preserved
loop-i-preserved g c =
    let state = g.Self.Drive.state in
    lets_pass_more c.loop-i._i (state c.args.self.now) (state c.loop-i.self) (state c.idle.new.self) c.loop-i.invariant c.idle.ensures
