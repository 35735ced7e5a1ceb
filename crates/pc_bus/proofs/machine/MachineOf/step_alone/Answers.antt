use Rattle.std.proofs.Common.{sym, ◌∙◌, arith}
use Rattle.pc_bus.specs.Boards.{board}
use Rattle.pc_bus.proofs.RunSteps.{runs_more, unset_more, runs_once, unset_once, steps_once, steps_more}
use Rattle.pc_bus.proofs.machine.MachineOf.step_alone.Goals as goal

pub loop-made-init : goal.loop-made-init
loop-made-init g c =
    let old = board g.D.Drive.state c.args.self.now in
    let new = board g.D.Drive.state c.step.new.self in (
      runs_once old new c.step.ensures,
      (λ unset. unset_once old new unset c.step.ensures),
      steps_once old new c.step.ensures,
      omega arith,
      omega (arith, c.requires),
    )

pub loop-made-preserved : goal.loop-made-preserved
loop-made-preserved g c =
    let old = board g.D.Drive.state c.args.self.now in
    let between = board g.D.Drive.state c.loop-made.self in
    let new = board g.D.Drive.state c.step-in-loop-made.new.self in (
      runs_more c.loop-made.made old between new c.loop-made.invariant.0 c.step-in-loop-made.ensures,
      (λ unset. unset_more c.loop-made.made old between new (c.loop-made.invariant.1 unset) (sym c.is_set.ensures ∙ c.if-is_set.false) c.step-in-loop-made.ensures),
      steps_more c.loop-made.made old between new c.loop-made.invariant.2 c.step-in-loop-made.ensures,
      omega arith,
      omega arith,
    )
