-- Bytes that are put to the desk's place one by one.
use Rattle.std.proofs.Common.{◌≡◌, ◌+◌, ◌<◌, ◌≤◌, ◌∷◌, ◌++◌, ℕ, List, [], length, take, drop, get_or, refl, sym, ap, ◌∙◌, arith}
use Rattle.std.specs.Prelude.{slice_set}
use Rattle.sector_desk.proofs.Common.{ext_get_or, get_or-take, get_or-drop, length-take, length-take-le, length-drop, take_more, bytes_from, user_bytes, StationState, sector_place, Places}
use Rattle.flop_base.specs.Lists.{with_items}
use Rattle.flop_base.proofs.Costs.{costs_after, costs_none}
use Rattle.floppy_session.proofs.Memories.{with_items-nil, set-with_items}
use Rattle.sector_model.specs.Calls.{SetsMemory}
use Rattle.track_model.proofs.Splices.{length-with_items, with_items_at}

-- no byte has been put yet
pub places_none : (old : StationState) (bytes : List ℕ) → Places (take 0 bytes) old old
places_none old bytes = record {
  becomes = ap (λ (memory : List ℕ). let station : StationState = record old { memory = memory } in station) (sym (with_items-nil old.memory sector_place));
  access = record { accesses = omega arith; no_commands = refl; no_cost = costs_none 0 0 old.counters };
}

-- one more byte after those that were put
pub places_more : (old mid new : StationState) (bytes : List ℕ) (i : ℕ) → i < length bytes → length bytes ≤ 8192 → length old.memory ≡ user_bytes → Places (take i bytes) old mid
    → SetsMemory (sector_place + i) (get_or bytes i 0) mid new → Places (take (i + 1) bytes) old new
places_more old mid new bytes i below few size placed sets =
    let long : length (take i bytes) ≡ i = length-take-le i bytes (omega arith) in
    let room : sector_place + length (take i bytes) < length old.memory = omega (arith, long, size, below, few) in
    let more : take (i + 1) bytes ≡ take i bytes ++ get_or bytes i 0 ∷ [] = take_more bytes i 0 below in
    let set : slice_set (with_items old.memory sector_place (take i bytes)) (sector_place + i) (get_or bytes i 0) ≡ with_items old.memory sector_place (take (i + 1) bytes) =
    ap (λ n. slice_set (with_items old.memory sector_place (take i bytes)) (sector_place + n) (get_or bytes i 0)) (sym long)
    ∙ set-with_items old.memory sector_place (take i bytes) (get_or bytes i 0) room
    ∙ ap (with_items old.memory sector_place) (sym more) in
    let longer : length (take (i + 1) bytes) ≡ i + 1 = length-take-le (i + 1) bytes (omega arith) in
    record {
      becomes =
          sets.becomes
          ∙ ap (λ (s : StationState). let t : StationState = record s { memory = slice_set s.memory (sector_place + i) (get_or bytes i 0); counters = new.counters } in t) placed.becomes
          ∙ ap (λ (m : List ℕ). let t : StationState = record old { memory = m; counters = new.counters } in t) set;
      access = record {
        accesses = omega (arith, long, longer, placed.access.accesses, sets.access.accesses);
        no_commands = sets.access.no_commands ∙ placed.access.no_commands;
        no_cost = costs_after 0 0 old.counters mid.counters new.counters placed.access.no_cost sets.access.no_cost;
      };
    }

-- ---- what stands at a range

byte_from : (memory : List ℕ) (place count k : ℕ) → k < count → get_or (bytes_from memory place count) k 0 ≡ get_or memory (place + k) 0
byte_from memory place count k below = get_or-take count (drop place memory) k 0 below ∙ get_or-drop place memory k 0

-- what is put at a range stands there
pub at_stands : (memory : List ℕ) (address : ℕ) (bytes : List ℕ) → address + length bytes ≤ length memory → bytes_from (with_items memory address bytes) address (length bytes) ≡ bytes
at_stands memory address bytes fits =
    let put : List ℕ = with_items memory address bytes in
    let long : length put ≡ length memory = length-with_items memory address bytes fits in
    let one : length (bytes_from put address (length bytes)) ≡ length bytes = omega (arith, long, length-take (length bytes) (drop address put), length-drop address put, fits) in
    ext_get_or 0 (bytes_from put address (length bytes)) bytes one
    (λ k within.
    let inside : k < length bytes = omega (arith, one, within) in
    byte_from put address (length bytes) k inside ∙ with_items_at memory address bytes fits (address + k) k refl inside)

pub placed_stands : (old new : StationState) (bytes : List ℕ) → length bytes ≤ 8192 → length old.memory ≡ user_bytes → Places bytes old new
    → bytes_from new.memory sector_place (length bytes) ≡ bytes
placed_stands old new bytes few size placed =
    ap (λ (s : StationState). bytes_from s.memory sector_place (length bytes)) placed.becomes
    ∙ at_stands old.memory sector_place bytes (omega (arith, few, size))
