use Rattle.std.proofs.Common.{◌+◌, arith}
use Rattle.drive_model.specs.declared.fault.Event.TheVariants.{Read}
use Rattle.drive_model.proofs.Entries.{none-at, none-more}
use Rattle.drive_model.proofs.fault.words_before.Goals as goal

pub loop-fault-preserved : goal.loop-fault-preserved
loop-fault-preserved c = record {
  within = omega arith;
  none = λ i below. none-more (Read c.args.c c.args.h (c.args.place + i)) c.args.faults.now c.loop-fault.fault-index _ c.loop-fault-test.true
      (c.loop-fault.invariant.none i (omega arith)) (c.words_before.ensures.none i (omega arith));
  all = λ none.
      let before = c.loop-fault.invariant.all none in
      let here = c.words_before.ensures.all (none-at c.args.faults.now c.loop-fault.fault-index _ c.loop-fault-test.true none) in
      omega (arith, before, here);
}
