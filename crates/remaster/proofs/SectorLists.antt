-- The sectors behind address fields, and their sizes.
use Rattle.std.proofs.Common.{◌≡◌, ℕ, suc, ◌+◌, ◌*◌, ◌≤◌, Bool, List, [], ◌∷◌, ◌++◌, length, take, All, sym, ap, subst, ◌∙◌, arith}
use Rattle.remaster.proofs.Common.{flat_map, take_all, All-append, All-push, length-map-range_with_len, Chrn, Look, Found, byte_at, bytes_at, IsSizeCode, content_size, content_at, LookAt, LookedField, Sector, HasLook, sector_of, found_by, found_at, HasSize}
use Rattle.track_model.specs.Cells.{IsInside}
use Rattle.track_model.proofs.Places.{bytes_at-more}

-- data that are found have a size code, and are inside the track together with their CRC
pub found_coded : (track : List ℕ) (p n : ℕ) (deleted : Bool) (place : ℕ) → LookAt track p n (Found deleted place) → IsSizeCode n
found_coded track p n deleted place look = look.1.coded

pub found_inside : (track : List ℕ) (p n : ℕ) (deleted : Bool) (place : ℕ) → LookAt track p n (Found deleted place) → IsInside track place (16 * (content_size n + 2))
found_inside track p n deleted place look =
    let inside = look.1.inside in
    let there : place ≡ look.0 + 64 = look.2 in
    omega (arith, inside, there)

-- one more byte of a content
pub content_more : (track : List ℕ) (place i : ℕ) (bytes after : List ℕ) (byte : ℕ) → after ≡ bytes ++ byte ∷ [] → bytes ≡ bytes_at track place i → byte ≡ byte_at track (place + 16 * i) → after ≡ bytes_at track place (i + 1)
content_more track place i bytes after byte e so_far is =
    e ∙ ap (λ bs. bs ++ byte ∷ []) so_far ∙ ap (λ (b : ℕ). bytes_at track place i ++ b ∷ []) is ∙ sym (bytes_at-more track place i)

-- ---- sizes

none_sized : All HasSize []
none_sized = λ k d lt. absurd (omega arith)

sized_by : (track : List ℕ) (p : ℕ) (key : Chrn) (look : Look) → LookAt track p key.n look → All HasSize (found_by track key look)
sized_by track p key (Found deleted place) look =
    All-push HasSize [] (sector_of key deleted (content_at track place key.n)) none_sized
    (record {
      coded = found_coded track p key.n deleted place look;
      size = length-map-range_with_len (λ i. byte_at track (place + 16 * i)) 0 (content_size key.n);
    })
sized_by track p key _ look = none_sized

pub all_sized : (track : List ℕ) (looked : List LookedField) → All (HasLook track) looked → All HasSize (flat_map (found_at track) looked)
all_sized track [] looks = none_sized
all_sized track (one ∷ rest) looks =
    All-append HasSize (found_at track one) (flat_map (found_at track) rest)
    (sized_by track one.field.place one.field.key one.look (looks 0 one (omega arith)))
    (all_sized track rest (λ k d lt. looks (suc k) d (omega arith)))

pub sized_of : (track : List ℕ) (looked : List LookedField) (i : ℕ) (sectors : List Sector) → sectors ≡ flat_map (found_at track) (take i looked) → length looked ≤ i → All (HasLook track) looked → All HasSize sectors
sized_of track looked i sectors is past looks =
    subst (All HasSize) (sym (is ∙ ap (flat_map (found_at track)) (take_all i looked past))) (all_sized track looked looks)
