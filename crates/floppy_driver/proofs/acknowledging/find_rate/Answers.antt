use Rattle.std.proofs.Common.{◌≡◌, ℕ, ◌+◌, ◌*◌, arith, refl, subst, sym, ◌∙◌}
use Rattle.floppy_driver.proofs.Lasting.{costs_next, costs_on, costs_for}
use Rattle.floppy_driver.proofs.Rounds.{HasFoundNone}
use Rattle.floppy_driver.proofs.RateFound.{found_neither, found_no_rate}
use Rattle.floppy_driver.proofs.acknowledging.find_rate.Goals as goal

pub loop-attempt-preserved : goal.loop-attempt-preserved
loop-attempt-preserved g c = record {
  idle = c.read_id-in-loop-attempt.ensures.idle;
  none =
      found_neither (g.C.Commands.rig c.args.machine.now) c.args.bay c.loop-attempt._attempt (g.C.Commands.rig c.loop-attempt.machine) c.loop-attempt.invariant.none c.read_id.result
      (g.C.Commands.rig c.read_id.new.self) c.read_id.ensures.step c.read_id-in-loop-attempt.result (g.C.Commands.rig c.read_id-in-loop-attempt.new.self) c.read_id-in-loop-attempt.ensures.step
      (sym c.is_ok-in-loop-attempt.ensures.value ∙ c.if-is_ok-2.false);
  cost =
      costs_next c.args.bay 4 522 24 c.loop-attempt._attempt (c.loop-attempt._attempt + 1) _ _ _ refl c.loop-attempt.invariant.cost
      (costs_on c.args.bay 2 2 261 261 12 12 _ _ _ c.read_id.ensures.costs c.read_id-in-loop-attempt.ensures.costs);
}

pub returns-then-is_ok-clause-costs : goal.returns-then-is_ok-clause-costs
returns-then-is_ok-clause-costs g c =
    let many = c.loop-attempt._attempt in
    costs_for c.args.bay (many * 4 + 2) 12 (many * 522 + 261) 1566 (many * 24 + 12) 72 _ _ (omega arith) (omega arith) (omega arith)
    (costs_on c.args.bay (many * 4) 2 (many * 522) 261 (many * 24) 12 _ _ _ c.loop-attempt.invariant.cost c.read_id.ensures.costs)

pub returns-then-is_ok-2-clause-costs : goal.returns-then-is_ok-2-clause-costs
returns-then-is_ok-2-clause-costs g c =
    let many = c.loop-attempt._attempt in
    costs_for c.args.bay (many * 4 + (2 + 2)) 12 (many * 522 + (261 + 261)) 1566 (many * 24 + (12 + 12)) 72 _ _ (omega arith) (omega arith) (omega arith)
    (costs_on c.args.bay (many * 4) (2 + 2) (many * 522) (261 + 261) (many * 24) (12 + 12) _ _ _ c.loop-attempt.invariant.cost
    (costs_on c.args.bay 2 2 261 261 12 12 _ _ _ c.read_id.ensures.costs c.read_id-in-loop-attempt.ensures.costs))

pub returns-clause-costs : goal.returns-clause-costs
returns-clause-costs g c =
    let many = c.loop-attempt._attempt in
    costs_for c.args.bay (many * 4) 12 (many * 522) 1566 (many * 24) 72 _ _ (omega arith) (omega arith) (omega arith) c.loop-attempt.invariant.cost

pub returns-clause-finds : goal.returns-clause-finds
returns-clause-finds g c =
    let all : c.loop-attempt._attempt ≡ 3 = omega arith in
    found_no_rate (g.C.Commands.rig c.args.machine.now) c.args.bay (g.C.Commands.rig c.loop-attempt.machine)
    (subst (λ (n : ℕ). HasFoundNone c.args.bay n (g.C.Commands.rig c.args.machine.now) (g.C.Commands.rig c.loop-attempt.machine)) all c.loop-attempt.invariant.none)
