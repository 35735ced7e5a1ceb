use Rattle.std.proofs.Common.{arith}
use Rattle.irq_events.proofs.Quiet.{quiet_fewer}
use Rattle.pc_bus.specs.Boards.{board}
use Rattle.pc_bus.proofs.Leaping.{leap_runs, leap_unset}
use Rattle.pc_bus.proofs.RunSteps.{runs_none, unset_none}
use Rattle.pc_bus.proofs.machine.MachineOf.leap.Goals as goal

pub returns-then-count-eq0-clause-runs : goal.returns-then-count-eq0-clause-runs
returns-then-count-eq0-clause-runs g c = runs_none _

pub returns-then-count-eq0-clause-unset : goal.returns-then-count-eq0-clause-unset
returns-then-count-eq0-clause-unset g c = λ _. unset_none _

pub skip-requires : goal.skip-requires
skip-requires g c =
    quiet_fewer c.pass_word_times-made.result c.quiet_for-count.result c.args.self.now.bus.strays c.pass_word_times-made.ensures.few
    c.quiet_for-count.ensures.quiet

pub returns-clause-runs : goal.returns-clause-runs
returns-clause-runs g c =
    leap_runs c.pass_word_times-made.result (board g.D.Drive.state c.args.self.now) c.pass_word_times-made.new.controller c.skip.new.self
    (g.D.Drive.state c.pass_word_times-made.new.first) (g.D.Drive.state c.pass_word_times-made.new.second)
    c.pass_word_times-made.ensures.passes c.skip.ensures (c.quiet_for-count.ensures.calm (omega arith))
    (quiet_fewer c.pass_word_times-made.result c.quiet_for-count.result c.args.self.now.bus.strays c.pass_word_times-made.ensures.few
    c.quiet_for-count.ensures.quiet)
    (omega arith)

pub returns-clause-unset : goal.returns-clause-unset
returns-clause-unset g c = λ unset.
    leap_unset c.pass_word_times-made.result (board g.D.Drive.state c.args.self.now) c.pass_word_times-made.new.controller c.skip.new.self
    (g.D.Drive.state c.pass_word_times-made.new.first) (g.D.Drive.state c.pass_word_times-made.new.second)
    c.pass_word_times-made.ensures.passes c.skip.ensures (c.quiet_for-count.ensures.calm (omega arith))
    (quiet_fewer c.pass_word_times-made.result c.quiet_for-count.result c.args.self.now.bus.strays c.pass_word_times-made.ensures.few
    c.quiet_for-count.ensures.quiet)
    (omega arith) unset
