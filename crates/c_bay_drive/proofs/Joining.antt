-- Joined maps of written tracks, and drives that report each other's writes.
use Rattle.std.proofs.Common.{◌≡◌, ◌⊎◌, inl, inr, ℕ, ◌<◌, ◌+◌, set, Bool, true, false, ◌||◌, List, [], ◌∷◌, length, get_or, map, min, max, refl, sym, ◌∙◌, ap, arith}
use Rattle.std.specs.Prelude.{zip}
use Rattle.std.specs.Int.{bit_at}
use Rattle.std.specs.Int.RustNames.{bit_or}
use Rattle.std.proofs.lemmas.Nat.Bits.{bit_at_or, same_from_bits}
use Rattle.std.proofs.lemmas.List.{length-map, length-set, ext_get_or, get_or-map, get_or-set_same, get_or-set_other}
use Rattle.std.proofs.lemmas.Slice.Zip.{length-zip, get_or-zip}
use Rattle.std.proofs.lemmas.Bool.{cases_eq}
use mathlib.Core.Logic.{◌≢◌}
use Rattle.c_bay_drive.specs.Joined.{joined, with_writes}
use Rattle.c_bay_drive.specs.declared.bay.BayDrive.{BayDrive}

abbrev byte_of : ℕ × ℕ → ℕ
byte_of bytes = bit_or bytes.0 bytes.1

-- ---- byte by byte

length_joined : (one other : List ℕ) → length (joined one other) ≡ min (length one) (length other)
length_joined one other = length-map (zip one other) byte_of ∙ length-zip one other

at_joined : (one other : List ℕ) (k : ℕ) → k < length one → k < length other
    → get_or (joined one other) k 0 ≡ bit_or (get_or one k 0) (get_or other k 0)
at_joined one other k here there =
    get_or-map byte_of (zip one other) k (0, 0) 0 (omega (arith, length-zip one other)) ∙ ap byte_of (get_or-zip one other k (0, 0) here there)

pub joined_by_bytes : (one other bits : List ℕ) (n : ℕ) → length one ≡ n → length other ≡ n → length bits ≡ n
    → ((k : ℕ) → k < n → get_or bits k 0 ≡ bit_or (get_or one k 0) (get_or other k 0)) → bits ≡ joined one other
joined_by_bytes one other bits n here there long each =
    ext_get_or 0 bits (joined one other) (omega (arith, length_joined one other))
    (λ k within. each k (omega arith) ∙ sym (at_joined one other k (omega arith) (omega arith)))

-- the bytes so far are joined, and so they are with one more byte
abbrev IsJoinedTo : (one other bits : List ℕ) → ℕ → Type 0
IsJoinedTo one other bits at = (k : ℕ) → k < at → get_or bits k 0 ≡ bit_or (get_or one k 0) (get_or other k 0)

byte_more : (bits : List ℕ) (at byte : ℕ) (one other : List ℕ) → at < length bits → byte ≡ bit_or (get_or one at 0) (get_or other at 0)
    → IsJoinedTo one other bits at → (k : ℕ) → k < at + 1 → (k ≡ at) ⊎ (k ≢ at)
    → get_or (set bits at byte) k 0 ≡ bit_or (get_or one k 0) (get_or other k 0)
byte_more bits at byte one other within is each k below (inl here) =
    ap (λ (it : ℕ). get_or (set bits at byte) it 0) here ∙ get_or-set_same bits at byte 0 within ∙ is
    ∙ sym (ap (λ (it : ℕ). bit_or (get_or one it 0) (get_or other it 0)) here)
byte_more bits at byte one other within is each k below (inr apart) =
    get_or-set_other bits at k byte 0 apart ∙ each k (omega (arith, apart))

pub joined_more : (one other bits : List ℕ) (at : ℕ) (left right : List ℕ) → left ≡ one → right ≡ other → length bits ≡ 20 → at < 20
    → IsJoinedTo one other bits at
    → (length (set bits at (bit_or (get_or left at 0) (get_or right at 0))) ≡ 20)
    × IsJoinedTo one other (set bits at (bit_or (get_or left at 0) (get_or right at 0))) (at + 1)
joined_more one other bits at left right is_one is_other long within each =
    let byte : bit_or (get_or left at 0) (get_or right at 0) ≡ bit_or (get_or one at 0) (get_or other at 0) =
    ap (λ (it : List ℕ). bit_or (get_or it at 0) (get_or right at 0)) is_one ∙ ap (λ (it : List ℕ). bit_or (get_or one at 0) (get_or it at 0)) is_other in (
      length-set bits at _ ∙ long,
      λ k below. byte_more bits at _ one other (omega arith) byte each k below (cases_eq k at),
    )

-- ---- a map joined with itself

either_same : (it : Bool) → (it || it) ≡ it
either_same true = refl
either_same false = refl

most_same : (n : ℕ) → max n n ≡ n
most_same n = omega arith

or_same : (byte : ℕ) → bit_or byte byte ≡ byte
or_same byte = same_from_bits _ _ (λ i. bit_at_or byte byte i ∙ most_same (bit_at byte i))

-- a map that is joined with itself stays
joined_same : (tracks : List ℕ) → joined tracks tracks ≡ tracks
joined_same [] = refl
joined_same (byte ∷ tracks) = ap (λ (it : ℕ). it ∷ joined tracks tracks) (or_same byte) ∙ ap (λ (it : List ℕ). byte ∷ it) (joined_same tracks)

abbrev telling : Bool → List ℕ → BayDrive → BayDrive
telling replaced tracks bay = record bay { replaced = replaced; tracks = tracks }

-- a drive stays as it is if it joins the writes of a drive that reports the same
pub writes_same : (from bay : BayDrive) → bay.replaced ≡ from.replaced → bay.tracks ≡ from.tracks → with_writes from bay ≡ bay
writes_same from bay replaced tracks =
    ap (λ (it : Bool). telling (it || bay.replaced) (joined from.tracks bay.tracks) bay) (sym replaced)
    ∙ ap (λ (it : Bool). telling it (joined from.tracks bay.tracks) bay) (either_same bay.replaced)
    ∙ ap (λ (it : List ℕ). telling bay.replaced (joined it bay.tracks) bay) (sym tracks)
    ∙ ap (λ (it : List ℕ). telling bay.replaced it bay) (joined_same bay.tracks)
