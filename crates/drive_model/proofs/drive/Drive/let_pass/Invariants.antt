use Rattle.drive_model.specs.Ahead.{LetsPass}
use Rattle.drive_model.proofs.drive.Drive.let_pass.Given as goal

abbrev pub invariant-loop-i : goal.invariant-loop-i
invariant-loop-i g l = LetsPass l._i (g.Self.Drive.state l.fn.self) (g.Self.Drive.state l.self)
