-- What holds of the data commands as they begin.
use Rattle.std.proofs.Common.{◌≡◌, ◌≤◌, ℕ, ◌+◌, Bool, true, false, not, ◌&&◌, ◌||◌, ◌==◌, [], length, nat_le, refl, ap, arith}
use Rattle.std.proofs.lemmas.Bool.{false≢true}
use Rattle.fdc_registers.specs.Fifo.{Fifo, room_of, low_level, wants}
use Rattle.fdc_phases.specs.Written.{AsksWithRoom}

-- by the FIFO's rule DRQ is up only where there is room
asks_room : (counted full asking low : Bool) → (not (counted || full) && (asking || low)) ≡ true → (counted ≡ false) × (full ≡ false)
asks_room false false asking low up = (refl, refl)
asks_room _ _ asking low up = absurd (false≢true up)

pub rule_room : (counted asking : Bool) (fifo : Fifo) → AsksWithRoom counted (wants false asking counted fifo) fifo
rule_room counted asking fifo up = asks_room counted (length fifo.bytes == room_of fifo.on) asking (nat_le (length fifo.bytes) (low_level fifo)) up

-- an empty FIFO that is on lets a command wait nine device steps
pub empty_room : (fifo : Fifo) → fifo.bytes ≡ [] → fifo.on ≡ true → 9 + length fifo.bytes ≤ room_of fifo.on
empty_room fifo none on = let room = ap room_of on in let empty = ap length none in omega arith

pub empty_lead : (lead least : ℕ) (fifo : Fifo) → lead ≡ least → 9 ≤ least → 9 ≤ lead + length fifo.bytes
empty_lead lead least fifo is enough = omega arith
