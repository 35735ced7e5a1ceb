-- The look at the first address field of a key is the look for this key.
use Rattle.std.proofs.Common.{ℕ, ◌+◌, List}
use Rattle.sector_map.proofs.Common.{Chrn, IsFirstAddress, IsReadOver, IsTurnRead}
use Rattle.sector_map.specs.declared.turn.TurnRead.{TurnRead}
use Rattle.sector_map.specs.declared.turn.TurnRead.TheVariants.{Found, NoMark, NoSector}

pub turn_over : (words : List ℕ) (key : Chrn) (p : ℕ) (content : List ℕ) (read : TurnRead) → IsFirstAddress words key p → IsReadOver words p key.n content read → IsTurnRead words key content read
turn_over words key p content (Found deleted) first h = (h.0 + 64, (p, first, h.1), h.2)
turn_over words key p content NoMark first h = absurd h
turn_over words key p content NoSector first h = absurd h
turn_over words key p content _ first h = (p, first, h)
