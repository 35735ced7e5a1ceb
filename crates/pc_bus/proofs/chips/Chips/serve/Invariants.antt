use Rattle.std.proofs.Common.{◌≡◌, ◌-◌}
use Rattle.pc_bus.specs.Transfers.{moved_up_to}
use Rattle.pc_bus.proofs.chips.Chips.serve.Given as goal

abbrev pub invariant-loop-i : goal.invariant-loop-i
invariant-loop-i l = moved_up_to (16 - l._i) l.self ≡ moved_up_to 16 l.fn.self
