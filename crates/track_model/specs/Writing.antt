-- Fields as they are written: words on word boundaries.
use Rattle.std.specs.Prelude.{ℕ, ◌/◌, ◌%◌, Bool, true, false, List, [], ◌∷◌, ◌++◌, replicate}
use Rattle.flop_base.specs.declared.key.Chrn.{Chrn}
use Rattle.track_model.specs.Bytes.{legal}
use Rattle.track_model.specs.Crc.{crc}
use Rattle.track_model.specs.Marks.{data_byte}
use Rattle.track_model.specs.Fields.{after_marks}

-- twelve bytes 00 after a bit 0, and the three marks A1 with their lost clocks
abbrev pub sync_and_marks : List ℕ
sync_and_marks = legal false (replicate 12 0) ++ (0x4489 ∷ 0x4489 ∷ 0x4489 ∷ [])

-- a CRC as its two bytes, the high byte first
abbrev pub check_bytes : ℕ → List ℕ
check_bytes check = check / 256 ∷ check % 256 ∷ []

-- a field of these bytes: sync, marks, and the bytes with their CRC. The bytes follow the last bit of the marks, a 1
abbrev pub written_field : List ℕ → List ℕ
written_field bytes = sync_and_marks ++ legal true (bytes ++ check_bytes (crc (after_marks bytes)))

-- the 22 words from the sync of an address field to its CRC
abbrev pub address_field : Chrn → List ℕ
address_field key = written_field (0xFE ∷ key.c ∷ key.h ∷ key.r ∷ key.n ∷ [])

-- the words that are written over a data field: 18, and one for each byte of the content
abbrev pub window : Bool → List ℕ → List ℕ
window deleted content = written_field (data_byte deleted ∷ content)
