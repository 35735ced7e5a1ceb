use Rattle.telwyddus_c.proofs.Common.{GivesFirst, state_of, KeepsDrives}
use Rattle.telwyddus_c.proofs.controller.blocks.give_bytes.Given as goal

abbrev pub invariant-loop-i : goal.invariant-loop-i
invariant-loop-i l = GivesFirst l.i l.bytes (state_of l.fn.controller) (state_of l.controller) × KeepsDrives l.fn.controller l.controller
