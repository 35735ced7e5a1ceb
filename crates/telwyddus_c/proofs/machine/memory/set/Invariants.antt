use Rattle.telwyddus_c.proofs.Common.{memory_of, CountsBytes, IsStored, board_of}
use Rattle.telwyddus_c.proofs.machine.memory.set.Given as goal

abbrev pub invariant-loop-i : goal.invariant-loop-i
invariant-loop-i l = IsStored l.address l.i l.bytes (memory_of (board_of l.fn.machine)) (memory_of (board_of l.machine))
    × CountsBytes l.address l.i (board_of l.fn.machine) (board_of l.machine)
