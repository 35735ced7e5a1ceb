use Rattle.std.proofs.Common.{ℕ, ◌≤◌, length, take}
use Rattle.sector_map.proofs.Common.{SWaits}
use Rattle.sector_map.proofs.ReadTurn.{IsReadingOn}
use Rattle.sector_map.proofs.turn.read_behind.Given as goal

abbrev pub invariant-loop-i : goal.invariant-loop-i
invariant-loop-i l = record {
  most : l.taken ≤ length l.content;
  reads : (p : ℕ) → SWaits l.fn.separator (take l.from l.words) p (length l.fn.content) → IsReadingOn l.words p (length l.fn.content) l.separator l.i l.deleted l.taken l.content;
}
