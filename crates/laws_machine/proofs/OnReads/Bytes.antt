-- One more byte in memory, and the channel after it.
use Rattle.std.proofs.Common.{◌≡◌, ◌⊎◌, inl, inr, ℕ, ◌+◌, ◌-◌, ◌%◌, ◌<◌, ◌≤◌, ◌==◌, Bool, true, false, List, [], ◌∷◌, ◌++◌, length, slice_set, if◌then◌else◌, refl, sym, ◌∙◌, subst, arith}
use Rattle.laws_machine.proofs.Common.{Channel, after_transfer, place_of, writes_memory, Scene, HasBytes, IsSet, IsMoved, get_or-append, length-set, get_or_push, get_or-set_other, nat_tests, grants}
use Rattle.std.proofs.lemmas.Grind.{get_or-set_at}
use Rattle.laws_machine.proofs.Facts.{length_more, not_granting, same_grants, set_over, some_of, number_is}

early_or_last : (i n : ℕ) → i < n + 1 → (i < n) ⊎ (i ≡ n)
early_or_last i n h = grind (arith, nat_tests)

-- one more byte behind the others in memory
bytes_more : (old : List ℕ) (address : ℕ) (bytes new : List ℕ) (byte place : ℕ) → HasBytes address bytes old new
    → place ≡ address + length bytes → address + length bytes < length old → HasBytes address (bytes ++ byte ∷ []) old (slice_set new place byte)
bytes_more old address bytes new byte place was here room = record {
  lengths = length-set new place byte ∙ was.lengths;
  put = λ i below. elim (early_or_last i (length bytes) (subst (λ n. i < n) (length_more bytes byte) below)) [
    | inl before ↦ get_or-set_other new place (address + i) byte 0 (λ same. absurd (omega arith)) ∙ (was.put i before ∙ sym (get_or-append bytes (byte ∷ []) 0 i before))
    | inr last ↦ get_or-set_at new place (address + i) byte 0 (omega arith) (let long = was.lengths in omega arith) ∙ sym (get_or_push bytes byte 0 i (sym last))
  ];
  others = λ k outside. let more = length_more bytes byte in elim outside [
    | inl before ↦ get_or-set_other new place k byte 0 (λ same. absurd (omega arith)) ∙ was.others k (inl before)
    | inr behind ↦ get_or-set_other new place k byte 0 (λ same. absurd (omega arith)) ∙ was.others k (inr (omega arith))
  ];
}

-- ---- the channel

-- a channel that stood at an address stands behind it after a byte, with one byte less to come
pub behind_byte : (channel : Channel) (address left : ℕ) → place_of channel ≡ address → channel.count ≡ left → channel.address + left < 65536 → (channel.count == 0) ≡ false
    → (place_of (after_transfer channel) ≡ address + 1) × ((after_transfer channel).count ≡ left - 1) × ((after_transfer channel).address + (left - 1) < 65536)
behind_byte channel address left at is room more =
    let some = some_of channel.count more in
    let next : (channel.address + 1) % 65536 ≡ channel.address + 1 = omega arith in (rw next (omega arith), rw more (omega arith), rw next (omega arith))

set_more : (channel : Channel) (address left : ℕ) → IsSet channel address left → (channel.count == 0) ≡ false
    → IsSet (after_transfer channel) (address + 1) (left - 1)
set_more channel address left set more =
    let (place, count, room) = behind_byte channel address left set.place set.count set.room more in
    record { granting = same_grants channel more ∙ set.granting; writing = set.writing; place = place; count = count; room = room }

-- ---- a byte that went to memory

-- the terminal count hasn't come while the channel grants
pub still_uncounted : (scene : Scene) (given : List ℕ) (counted : Bool) (memory : List ℕ) (channel : Channel) → IsMoved scene given counted memory channel
    → grants channel ≡ true → counted ≡ false
still_uncounted scene given true memory channel moved granting = absurd (not_granting (grants channel) (moved.over refl).0 granting)
still_uncounted scene given false memory channel moved granting = refl

abbrev writes : Bool → List ℕ → ℕ → ℕ → List ℕ
writes writing memory place byte = if writing then slice_set memory place byte else memory

pub moved_more : (scene : Scene) (given : List ℕ) (memory : List ℕ) (channel : Channel) (byte : ℕ)
    → scene.address + scene.size ≤ length scene.memory → IsMoved scene given false memory channel
    → (last : Bool) → (channel.count == 0) ≡ last
    → IsMoved scene (given ++ byte ∷ []) last (writes (writes_memory channel) memory (place_of channel) byte) (after_transfer channel)
moved_more scene given memory channel byte fits was last is =
    let (left, all, set) = was.goes_on refl in
    let more = length_more given byte in
    let put : HasBytes scene.address (given ++ byte ∷ []) scene.memory (slice_set memory (place_of channel) byte) =
    bytes_more scene.memory scene.address given memory byte (place_of channel) was.bytes set.place (omega arith) in
    record {
      bytes = rw set.writing put;
      goes_on = λ uncounted. let on : (channel.count == 0) ≡ false = is ∙ uncounted in (
        left - 1,
        (let some = some_of channel.count on in let count = set.count in omega arith),
        subst (λ address. IsSet (after_transfer channel) address (left - 1)) (omega arith) (set_more channel (scene.address + length given) left set on),
      );
      over = λ counted. let none = number_is channel.count 0 (is ∙ counted) in let count = set.count in
          (set_over channel (is ∙ counted), omega arith);
    }
