use Rattle.std.proofs.Common.{◌+◌, ◌-◌, arith}
use Rattle.floppy_driver.proofs.Lasting.{costs_any, costs_asked, costs_fewer, costs_next}
use Rattle.floppy_driver.proofs.WriteLoops.{between_none, between_done, between_more, between_all}
use Rattle.floppy_driver.proofs.driver.Driver.write_in_attempts.Goals as goal

pub loop-attempt-init : goal.loop-attempt-init
loop-attempt-init g c =
    (c.requires.idle, between_none _ _ _ _ _ _ _ c.requires.ready c.requires.asked, costs_any c.args.bay _ _ _ (g.C.Commands.rig c.args.machine.now))

pub returns-in-Ok-clause-costs : goal.returns-in-Ok-clause-costs
returns-in-Ok-clause-costs g c =
    costs_fewer c.args.bay 4 765 77 c.loop-attempt.attempt c.args.self.now.tries _ _ (omega arith)
    (costs_next c.args.bay 4 765 77 (c.loop-attempt.attempt - 1) c.loop-attempt.attempt _ _ _ (omega arith) c.loop-attempt.invariant.2 c.write_once.ensures.costs)

pub returns-clause-costs : goal.returns-clause-costs
returns-clause-costs g c =
    costs_fewer c.args.bay 4 765 77 (c.loop-attempt.attempt - 1) c.args.self.now.tries _ _ (omega arith) c.loop-attempt.invariant.2

pub returns-in-Ok-clause-step : goal.returns-in-Ok-clause-step
returns-in-Ok-clause-step g c = λ start spares waiting asked none.
    between_done c.args.self.now (g.C.Commands.rig c.args.machine.now) c.args.bay c.args.key c.args.address c.args.deleted (c.loop-attempt.attempt - 1) c.loop-attempt.attempt c.loop-attempt.last c.loop-attempt.self (g.C.Commands.rig c.loop-attempt.machine)
    c.requires.ready c.requires.asked c.loop-attempt.invariant.1 (omega arith) c.write_once.result c.write_once.new.self (g.C.Commands.rig c.write_once.new.machine) c.write_once.ensures.attempt c.in-Ok.is (omega arith) start spares waiting asked
    (costs_asked start c.args.self.now (g.C.Commands.rig c.args.machine.now) (g.C.Commands.rig c.write_once.new.machine) spares waiting c.args.bay 4 765 77 asked none (returns-in-Ok-clause-costs g c))

pub loop-attempt-preserved : goal.loop-attempt-preserved
loop-attempt-preserved g c = (
  c.write_once.ensures.idle,
  between_more c.args.self.now (g.C.Commands.rig c.args.machine.now) c.args.bay c.args.key c.args.address c.args.deleted (c.loop-attempt.attempt - 1) c.loop-attempt.attempt c.loop-attempt.last c.loop-attempt.self (g.C.Commands.rig c.loop-attempt.machine)
      c.requires.ready c.requires.asked c.loop-attempt.invariant.1 (omega arith) c.write_once.result c.write_once.new.self (g.C.Commands.rig c.write_once.new.machine) c.write_once.ensures.attempt (c.loop-attempt.attempt + 1 - 1) _ (omega arith) c.in-Err.is c.write_once.ensures.tries c.write_once.ensures.memory c.write_once.ensures.counts c.write_once.ensures.ready,
  costs_next c.args.bay 4 765 77 (c.loop-attempt.attempt - 1) (c.loop-attempt.attempt + 1 - 1) _ _ _ (omega arith) c.loop-attempt.invariant.2 c.write_once.ensures.costs,
)

pub returns-clause-step : goal.returns-clause-step
returns-clause-step g c = λ start spares waiting asked none.
    between_all c.args.self.now (g.C.Commands.rig c.args.machine.now) c.args.bay c.args.key c.args.address c.args.deleted (c.loop-attempt.attempt - 1) c.loop-attempt.last c.loop-attempt.self (g.C.Commands.rig c.loop-attempt.machine)
    c.requires.ready c.requires.asked c.loop-attempt.invariant.1 (omega arith) start spares waiting asked
    (costs_asked start c.args.self.now (g.C.Commands.rig c.args.machine.now) (g.C.Commands.rig c.loop-attempt.machine) spares waiting c.args.bay 4 765 77 asked none (returns-clause-costs g c))
