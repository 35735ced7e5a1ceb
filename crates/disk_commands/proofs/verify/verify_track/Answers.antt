use Rattle.std.proofs.Common.{rules, arith}
use Rattle.disk_commands.proofs.Common.{err_from_is_err_and, begins, goes_on, ends, over}
use Rattle.disk_commands.specs.Verify.{verifies_track}
use Rattle.disk_commands.proofs.verify.verify_track.Goals as goal

pub loop-r-init : goal.loop-r-init
loop-r-init g c = record { turning = begins _ _ _ _ _ _; few = search rules }

pub returns-in_err-now : goal.returns-in_err-now
unfolding verifies_track
returns-in_err-now g c = record {
  ran =
      let p = err_from_is_err_and c.from_residual.result c.from_residual.ensures.1 in
      rw (p.1, p.2) (ends _ _ _ _ _ _ _ _ _ _ _ c.loop-r.invariant.turning c.in_err-now.ensures.ran (omega arith));
  few = search rules;
}

pub loop-r-preserved : goal.loop-r-preserved
loop-r-preserved g c = record {
  turning = goes_on _ _ _ _ _ _ _ _ _ _ _ c.loop-r.invariant.turning c.in_ok-now.ensures.ran (omega arith);
  few = search rules;
}

pub returns : goal.returns
unfolding verifies_track
returns g c = record {
  ran = over _ _ _ _ _ _ _ _ _ c.loop-r.invariant.turning (omega arith);
  few = search rules;
}
