-- Fields: a mark, bytes, and their CRC.
use Rattle.std.specs.Prelude.{◌≡◌, ℕ, ◌+◌, ◌*◌, ◌^◌, ◌<◌, ◌≤◌, Bool, List, [], ◌∷◌, AllPairs, All, Contains}
use Rattle.flop_base.specs.declared.key.Chrn.{Chrn}
use Rattle.track_model.specs.declared.Field.{Field}
use Rattle.track_model.specs.Bytes.{byte_at, bytes_at}
use Rattle.track_model.specs.Crc.{crc}
use Rattle.track_model.specs.Marks.{IsSound, IsAddressMark, IsDataRun}

-- the two bytes at p are the CRC of these bytes, high byte first
abbrev pub HasCheck : List ℕ → ℕ → List ℕ → Type 0
HasCheck track p bytes = 256 * byte_at track p + byte_at track (p + 16) ≡ crc bytes

-- the bytes after the three marks A1, with which each CRC begins
abbrev pub after_marks : List ℕ → List ℕ
after_marks bytes = 0xA1 ∷ 0xA1 ∷ 0xA1 ∷ bytes

-- the bytes of an address field from which its CRC is computed
abbrev pub address_bytes : Chrn → List ℕ
address_bytes key = after_marks (0xFE ∷ key.c ∷ key.h ∷ key.r ∷ key.n ∷ [])

-- an intact address field of the key at p: mark, cylinder, head, record, size code, CRC
pub record IsAddressAt (track : List ℕ) (p : ℕ) (key : Chrn) : Type 0 where
  pub mark : IsAddressMark track p
  pub cylinder : byte_at track (p + 64) ≡ key.c
  pub head : byte_at track (p + 80) ≡ key.h
  pub sector : byte_at track (p + 96) ≡ key.r
  pub size : byte_at track (p + 112) ≡ key.n
  pub check : HasCheck track (p + 128) (address_bytes key)
  pub sound : IsSound track p 160

-- some intact address field is at p
abbrev pub IsAddress : List ℕ → ℕ → Type 0
IsAddress track p = (key : Chrn) × IsAddressAt track p key

-- the list has exactly the intact address fields of the track, in order of place
pub record AreAddresses (track : List ℕ) (fields : List Field) : Type 0 where
  pub each : All (λ field. IsAddressAt track field.place field.key) fields
  pub ordered : AllPairs (λ a b. a.place < b.place) fields
  pub all : (field : Field) → IsAddressAt track field.place field.key → Contains fields field

-- the data mark of an address field at p, whose end is p + 160: it begins less than 960 cells after that end
pub record IsDataMark (track : List ℕ) (p q : ℕ) (deleted : Bool) : Type 0 where
  pub after : p + 160 ≤ q
  pub near : q < p + 160 + 960
  pub run : IsDataRun track q deleted

-- size codes from 1 to 6 name a size
abbrev pub IsSizeCode : ℕ → Type 0
IsSizeCode n = (1 ≤ n) × (n ≤ 6)

-- how many bytes a sector of size code n has
abbrev pub content_size : ℕ → ℕ
content_size n = 128 * 2 ^ n

-- how many cells a data field has: marks, mark byte, content and CRC
abbrev pub data_cells : ℕ → ℕ
data_cells n = 64 + 16 * (content_size n + 2)

-- the content that begins at a cell
abbrev pub content_at : List ℕ → ℕ → ℕ → List ℕ
content_at track place n = bytes_at track place (content_size n)

-- the data field at q is intact and has this content
pub record IsWhole (track : List ℕ) (q n : ℕ) (content : List ℕ) : Type 0 where
  pub sound : IsSound track q (data_cells n)
  pub content_is : content ≡ content_at track (q + 64) n
  pub check : HasCheck track (q + 64 + 16 * content_size n) (after_marks (byte_at track (q + 48) ∷ content))
