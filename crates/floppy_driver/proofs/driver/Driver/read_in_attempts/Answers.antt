use Rattle.std.proofs.Common.{◌+◌, ◌-◌, arith, refl, ap, ◌∙◌}
use Rattle.floppy_driver.proofs.Common.{goes_on_after, goes_on_itself, StationState, shown, IsSure}
use Rattle.floppy_driver.proofs.Lasting.{costs_any, costs_asked, costs_fewer, costs_next}
use Rattle.floppy_driver.proofs.ReadTries.{tried_none, tried_next, done_at, failed_all}
use Rattle.floppy_driver.proofs.driver.Driver.read_in_attempts.Goals as goal

pub loop-attempt-init : goal.loop-attempt-init
loop-attempt-init g c = record {
  idle = c.requires.idle;
  ready = c.requires.ready;
  tries = refl;
  counts = goes_on_itself (g.C.Commands.rig c.args.machine.now).counters;
  cost = costs_any c.args.bay _ _ _ (g.C.Commands.rig c.args.machine.now);
  tried = λ start spares waiting asked. tried_none start c.args.bay c.args.key c.args.address _ (shown c.args.self.now (g.C.Commands.rig c.args.machine.now) spares waiting) asked;
}

pub loop-attempt-preserved : goal.loop-attempt-preserved
loop-attempt-preserved g c = record {
  idle = c.in-Err.ensures.idle;
  ready = c.in-Err.ensures.ready;
  tries = c.in-Err.ensures.tries ∙ c.loop-attempt.invariant.tries;
  counts = goes_on_after _ _ _ c.loop-attempt.invariant.counts c.in-Err.ensures.counts;
  cost =
      costs_next c.args.bay 2 504 48 (c.loop-attempt.attempt - 1) (c.loop-attempt.attempt + 1 - 1) _ _ _ (omega arith) c.loop-attempt.invariant.cost c.read_once.ensures.costs;
  tried = λ start spares waiting asked.
      tried_next start c.args.bay c.args.key c.args.address c.loop-attempt.attempt c.loop-attempt.self.tries c.loop-attempt.last c.in-Err.code
      (shown c.loop-attempt.self (g.C.Commands.rig c.loop-attempt.machine) spares waiting) (shown c.read_once.new.self (g.C.Commands.rig c.read_once.new.machine) spares waiting)
      (omega arith) c.loop-attempt.self.some_tries (c.loop-attempt.invariant.tries ∙ ap (λ (s : StationState). s.tries) asked.stays)
      (c.loop-attempt.invariant.tried start spares waiting asked) (c.in-Err.ensures.step spares waiting);
}

pub returns-in-Ok-clause-costs : goal.returns-in-Ok-clause-costs
returns-in-Ok-clause-costs g c =
    costs_fewer c.args.bay 2 504 48 c.loop-attempt.attempt c.args.self.now.tries _ _ (omega arith)
    (costs_next c.args.bay 2 504 48 (c.loop-attempt.attempt - 1) c.loop-attempt.attempt _ _ _ (omega arith) c.loop-attempt.invariant.cost c.read_once.ensures.costs)

pub returns-clause-costs : goal.returns-clause-costs
returns-clause-costs g c =
    costs_fewer c.args.bay 2 504 48 (c.loop-attempt.attempt - 1) c.args.self.now.tries _ _ (omega arith) c.loop-attempt.invariant.cost

pub returns-in-Ok-clause-step : goal.returns-in-Ok-clause-step
returns-in-Ok-clause-step g c = λ start spares waiting asked none.
    done_at start c.args.bay c.args.key c.args.address c.loop-attempt.attempt c.loop-attempt.self.tries c.loop-attempt.last (IsSure c.loop-attempt.self.tries c.loop-attempt.attempt) c.in-Ok.deleted
    (shown c.loop-attempt.self (g.C.Commands.rig c.loop-attempt.machine) spares waiting) (shown c.read_once.new.self (g.C.Commands.rig c.read_once.new.machine) spares waiting)
    (omega arith) (omega arith) (c.loop-attempt.invariant.tries ∙ ap (λ (s : StationState). s.tries) asked.stays)
    (c.loop-attempt.invariant.tried start spares waiting asked) (c.in-Ok.ensures.step spares waiting)
    (costs_asked start c.args.self.now (g.C.Commands.rig c.args.machine.now) (g.C.Commands.rig c.read_once.new.machine) spares waiting c.args.bay 2 504 48 asked none (returns-in-Ok-clause-costs g c))

pub returns-clause-step : goal.returns-clause-step
returns-clause-step g c = λ start spares waiting asked none.
    failed_all start c.args.bay c.args.key c.args.address c.loop-attempt.attempt c.args.self.now.tries c.loop-attempt.last
    (shown c.loop-attempt.self (g.C.Commands.rig c.loop-attempt.machine) spares waiting)
    (omega arith) c.args.self.now.some_tries (ap (λ (s : StationState). s.tries) asked.stays)
    (c.loop-attempt.invariant.tried start spares waiting asked)
    (costs_asked start c.args.self.now (g.C.Commands.rig c.args.machine.now) (g.C.Commands.rig c.loop-attempt.machine) spares waiting c.args.bay 2 504 48 asked none (returns-clause-costs g c))
