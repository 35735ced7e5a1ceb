-- The records of a diskette, with one more record, head or cylinder at a time.
use Rattle.std.proofs.Common.{◌≡◌, ℕ, zero, suc, ◌+◌, ◌-◌, ◌≤◌, List, [], ◌∷◌, ◌++◌, map, sym, ap, ◌∙◌, append_assoc, refl, arith}
use Rattle.rescue.proofs.Common.{range_with_len, flat_map, append-nil, flat_map_more, map-range_with_len_more, Chrn, sectors_at, Rate, key_of}
use Rattle.sector_map.specs.Standard.{track_keys, cylinder_keys}
use Rattle.rescue.specs.Course.{standard_keys}

pub track-more : (r c h : ℕ) → 1 ≤ r → track_keys (r + 1 - 1) c h ≡ track_keys (r - 1) c h ++ key_of c h r ∷ []
unfolding track_keys
track-more r c h some =
    let count : r + 1 - 1 ≡ r - 1 + 1 = omega arith in
    ap (λ n. map (key_of c h) (range_with_len 1 n)) count ∙ map-range_with_len_more (key_of c h) 1 (r - 1) r (omega arith)

pub track-none : (c h : ℕ) → track_keys (1 - 1) c h ≡ []
unfolding track_keys
track-none c h = refl

pub range_suc : (a n : ℕ) → range_with_len a (suc n) ≡ range_with_len a n ++ (a + n) ∷ []
range_suc a zero = let e : a ≡ a + 0 = omega arith in ap (λ k. k ∷ []) e
range_suc a (suc n) =
    let e : a + 1 + n ≡ a + suc n = omega arith in
    ap (λ ks. a ∷ ks) (range_suc (a + 1) n) ∙ ap (λ k. a ∷ (range_with_len (a + 1) n ++ k ∷ [])) e

flat_more : (keys : ℕ → List Chrn) (n : ℕ) → flat_map keys (range_with_len 0 (n + 1)) ≡ flat_map keys (range_with_len 0 n) ++ keys n
flat_more keys n =
    let count : n + 1 ≡ suc n = omega arith in
    let last : 0 + n ≡ n = omega arith in
    ap (λ m. flat_map keys (range_with_len 0 m)) count
    ∙ ap (flat_map keys) (range_suc 0 n)
    ∙ sym (flat_map_more keys [] (range_with_len 0 n) (0 + n))
    ∙ ap (λ m. flat_map keys (range_with_len 0 n) ++ keys m) last

pub cylinder-more : (sectors h c : ℕ) → cylinder_keys sectors (h + 1) c ≡ cylinder_keys sectors h c ++ track_keys sectors c h
unfolding cylinder_keys
cylinder-more sectors h c = flat_more (track_keys sectors c) h

pub cylinder-none : (sectors c : ℕ) → cylinder_keys sectors 0 c ≡ []
unfolding cylinder_keys
cylinder-none sectors c = refl

pub standard-more : (rate : Rate) (c heads : ℕ) → standard_keys rate (c + 1) heads ≡ standard_keys rate c heads ++ cylinder_keys (sectors_at rate) heads c
unfolding standard_keys
standard-more rate c heads = flat_more (cylinder_keys (sectors_at rate) heads) c

pub standard-none : (rate : Rate) (heads : ℕ) → standard_keys rate 0 heads ≡ []
unfolding standard_keys
standard-none rate heads = refl

-- to what stood there some items were added, and then more: together they are all items
pub added : {T : Type 0} (start so_far items more after all : List T) → items ≡ start ++ so_far → after ≡ items ++ more → all ≡ so_far ++ more → after ≡ start ++ all
added start so_far items more after all e f g =
    f ∙ ap (λ l. l ++ more) e ∙ append_assoc start so_far more ∙ ap (λ l. start ++ l) (sym g)

pub added_none : {T : Type 0} (start none : List T) → none ≡ [] → start ≡ start ++ none
added_none start none e = sym (append-nil start) ∙ ap (λ l. start ++ l) (sym e)
