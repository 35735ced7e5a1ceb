-- What a successful look says of sectors, and what follows from Lone and Plain.
use Rattle.std.proofs.Common.{◌≡◌, ℕ, ◌+◌, ◌*◌, ◌≤◌, Bool, List, length, refl, subst, sym, arith}
use Rattle.track_model.proofs.Common.{Chrn, Found, IsAddressMark, IsDataMark, IsSizeCode, data_cells, content_at, content_size, IsWhole, LookAt, LookFor, IsSector, IsUnder, IsLone, IsPlain, IsClear}

-- the content that was found, and its CRC, are inside the track
pub found_inside : (track : List ℕ) (key : Chrn) (deleted : Bool) (place : ℕ) → LookFor track key (Found deleted place) → place + 16 * (content_size key.n + 2) ≤ 16 * length track
found_inside track key deleted place look =
    let found = look.2 in
    let at_place : place ≡ found.0 + 64 = found.2 in
    let inside : found.0 + data_cells key.n ≤ 16 * length track = found.3.sound.inside in
    omega arith

-- what a look finds is a sector of the key
pub found_sector : (track : List ℕ) (key : Chrn) (deleted : Bool) (place : ℕ) → LookFor track key (Found deleted place) → IsSector track key deleted (content_at track place key.n)
found_sector track key deleted place look = (look.0, place, look.1.address, look.2, refl)

-- a sector is under its key
pub sector_under : (track : List ℕ) (key : Chrn) (deleted : Bool) (content : List ℕ) → IsSector track key deleted content → IsUnder track key deleted content
sector_under track key deleted content sector =
    let found = sector.3 in
    let At : ℕ → Type 0 = λ place. content ≡ content_at track place key.n in
    let is_content = subst At found.2 sector.4 in (
      sector.0,
      found.0,
      sector.2,
      found.1.first.mark,
      subst (λ row. IsWhole track found.0 key.n row) (sym is_content) found.3,
    )

-- a whole data field behind the only data mark is what the look finds
pub lone_found : (track : List ℕ) (p q n : ℕ) (deleted : Bool) (content : List ℕ) → IsLone track p → IsSizeCode n → IsDataMark track p q deleted → IsWhole track q n content → LookAt track p n (Found deleted (q + 64))
lone_found track p q n deleted content lone coded mark whole = (
  q,
  record {
    coded = coded;
    first = record {
      mark = mark;
      none_before = λ k other before earlier.
          let same = lone k q other deleted earlier mark in absurd (omega arith);
    };
    inside = whole.sound.inside;
  },
  refl,
  subst (λ row. IsWhole track q n row) whole.content_is whole,
)

-- on a Plain track every address mark is Clear
pub plain_clear : (track : List ℕ) (p : ℕ) → IsPlain track → IsAddressMark track p → IsClear track p
plain_clear track p plain mark = record {
  mark = mark;
  inner = plain p mark;
  outer = λ k other low high. plain k other p low high mark.run;
}
