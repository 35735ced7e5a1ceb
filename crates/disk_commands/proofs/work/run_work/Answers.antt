use Rattle.std.proofs.Common.{rules, arith, sym}
use Rattle.disk_commands.proofs.Common.{err_from_is_err_and, begins, goes_on, ends, over}
use Rattle.disk_commands.specs.Exercise.{works}
use Rattle.disk_commands.proofs.Working.{first_number, number_more}
use Rattle.disk_commands.proofs.work.run_work.Goals as goal

pub loop-i-init : goal.loop-i-init
loop-i-init g c = record { turning = begins _ _ _ _ _ _; number = first_number _; few = search rules; small = search rules }

pub returns-in_err-tally : goal.returns-in_err-tally
unfolding works
returns-in_err-tally g c =
    let p = err_from_is_err_and c.from_residual.result c.from_residual.ensures.1 in
    rw (p.1, p.2) (ends _ _ _ _ _ _ _ _ _ _ _ c.loop-i.invariant.turning (rw (sym c.loop-i.invariant.number) c.in_err-tally.ensures.ran) (omega arith))

pub loop-i-preserved : goal.loop-i-preserved
loop-i-preserved g c = record {
  turning = goes_on _ _ _ _ _ _ _ _ _ _ _ c.loop-i.invariant.turning (rw (sym c.loop-i.invariant.number) c.in_ok-tally.ensures.ran) (omega arith);
  number = number_more c.args.seed c.loop-i._i _ _ c.loop-i.invariant.number c.in_ok-tally.ensures.number;
  few = omega (arith, c.loop-i.invariant.few, c.in_ok-tally.ensures.more.few);
  small = omega (arith, c.loop-i.invariant.small, c.in_ok-tally.ensures.more.small);
}

pub returns : goal.returns
unfolding works
returns g c = over _ _ _ _ _ _ _ _ _ c.loop-i.invariant.turning (omega arith)

pub run_next-requires : goal.run_next-requires
run_next-requires g c = record { room = search rules }
