use Rattle.std.proofs.Common.{◌≡◌, ℕ, ◌+◌, ◌<◌, ◌≤◌, false, take}
use Rattle.drive_model.specs.declared.fault.Event.TheVariants.{Read}
use Rattle.drive_model.specs.Fault.{comes, total_left}
use Rattle.drive_model.proofs.fault.words_before.Given as goal

abbrev pub invariant-loop-fault : goal.invariant-loop-fault
invariant-loop-fault l = record {
  within : l.limit ≤ l.most;
  none : (i : ℕ) → i < l.limit → comes (take l.fault-index l.faults) (Read l.c l.h (l.place + i)) ≡ false;
  all : total_left l.faults ≡ 0 → l.limit ≡ l.most;
}
