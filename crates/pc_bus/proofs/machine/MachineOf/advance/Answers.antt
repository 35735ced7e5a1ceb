use Rattle.std.proofs.Common.{ap, ◌∙◌, arith}
use Rattle.pc_bus.specs.Boards.{board}
use Rattle.pc_bus.proofs.RunSteps.{runs_once, unset_once, runs_behind, unset_behind}
use Rattle.pc_bus.proofs.machine.MachineOf.advance.Goals as goal

pub returns-then-not-may_leap-clause-runs : goal.returns-then-not-may_leap-clause-runs
returns-then-not-may_leap-clause-runs g c = runs_once (board g.D.Drive.state c.args.self.now) (board g.D.Drive.state c.step.new.self) c.step.ensures

pub returns-then-not-may_leap-clause-unset : goal.returns-then-not-may_leap-clause-unset
returns-then-not-may_leap-clause-unset g c = λ unset.
    unset_once (board g.D.Drive.state c.args.self.now) (board g.D.Drive.state c.step.new.self) unset c.step.ensures

pub returns-clause-runs : goal.returns-clause-runs
returns-clause-runs g c =
    runs_behind c.leap-made.result c.step_alone.result (board g.D.Drive.state c.args.self.now) (board g.D.Drive.state c.leap-made.new.self)
    (board g.D.Drive.state c.step_alone.new.self) (omega arith) c.leap-made.ensures.runs c.step_alone.ensures.runs

pub returns-clause-unset : goal.returns-clause-unset
returns-clause-unset g c = λ unset.
    unset_behind c.leap-made.result c.step_alone.result (board g.D.Drive.state c.args.self.now) (board g.D.Drive.state c.leap-made.new.self)
    (board g.D.Drive.state c.step_alone.new.self) (omega arith) (c.leap-made.ensures.unset unset)
    (c.step_alone.ensures.unset (ap (λ latch. latch.is_set) c.leap-made.ensures.latch ∙ unset))
