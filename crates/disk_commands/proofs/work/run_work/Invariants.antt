use Rattle.std.proofs.Common.{◌≡◌, ◌≤◌, ◌+◌, ◌*◌}
use Rattle.disk_commands.proofs.Common.{IsTurning, number_after}
use Rattle.disk_commands.specs.Exercise.{no_work, works_behind}
use Rattle.disk_commands.proofs.work.run_work.Given as goal

abbrev pub invariant-loop-i : goal.invariant-loop-i
invariant-loop-i g l = record {
  turning : IsTurning g.R.AnyRun.hand 0 l.fn.count (λ i. works_behind (number_after (5 * i) l.fn.seed)) no_work l.fn.run l._i l.tally l.run;
  number : l.draws.number ≡ number_after (5 * l._i) l.fn.seed;
  few : l.tally.done + l.tally.refused ≤ l._i;
  small : l.tally.sum ≤ 130560 * l._i;
}
