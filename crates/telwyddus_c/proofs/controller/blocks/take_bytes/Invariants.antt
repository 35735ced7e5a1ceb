use Rattle.telwyddus_c.proofs.Common.{TakesSome, state_of, KeepsDrives}
use Rattle.telwyddus_c.proofs.controller.blocks.take_bytes.Given as goal

abbrev pub invariant-loop-i : goal.invariant-loop-i
invariant-loop-i l = TakesSome l.i l.fn.out l.out (state_of l.fn.controller) (state_of l.controller) × KeepsDrives l.fn.controller l.controller
