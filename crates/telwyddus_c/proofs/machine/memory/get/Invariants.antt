use Rattle.std.proofs.Common.{◌≡◌, ℕ, ◌+◌, ◌<◌, length}
use Rattle.std.specs.Prelude.{slice_index}
use Rattle.telwyddus_c.proofs.Common.{memory_of, board_of}
use Rattle.telwyddus_c.proofs.machine.memory.get.Given as goal

abbrev pub invariant-loop-i : goal.invariant-loop-i
invariant-loop-i l = (length l.out ≡ length l.fn.out)
    × ((k : ℕ) → k < l.i → slice_index l.out k ≡ slice_index (memory_of (board_of l.machine)) (l.address + k))
