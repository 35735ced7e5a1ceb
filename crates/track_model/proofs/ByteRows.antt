-- Bytes whose cells are known from elsewhere, the marks, and a whole address field.
use Rattle.std.proofs.Common.{◌≡◌, true, false, [], ◌∷◌, ◌++◌, replicate, refl}
use Rattle.track_model.proofs.Common.{Chrn, cells_at, byte_at, address_field}
use Rattle.track_model.specs.Cells.{number}
use Rattle.track_model.specs.Bytes.{legal}
use Rattle.track_model.specs.Crc.{bits, number_in, row_of, invert, reduced, divided, remainder, crc}

byte_00_after_0 : legal false (0x00 ∷ []) ≡ 0xAAAA ∷ []
unfolding legal number
byte_00_after_0 = refl

byte_4E_after_0 : legal false (0x4E ∷ []) ≡ 0x9254 ∷ []
unfolding legal number
byte_4E_after_0 = refl

byte_4E_after_1 : legal true (0x4E ∷ []) ≡ 0x1254 ∷ []
unfolding legal number
byte_4E_after_1 = refl

byte_FE_after_1 : legal true (0xFE ∷ []) ≡ 0x5554 ∷ []
unfolding legal number
byte_FE_after_1 = refl

byte_FB_after_1 : legal true (0xFB ∷ []) ≡ 0x5545 ∷ []
unfolding legal number
byte_FB_after_1 = refl

byte_F8_after_1 : legal true (0xF8 ∷ []) ≡ 0x554A ∷ []
unfolding legal number
byte_F8_after_1 = refl

byte_FC_after_0 : legal false (0xFC ∷ []) ≡ 0x5552 ∷ []
unfolding legal number
byte_FC_after_0 = refl

byte_F6_after_0 : legal false (0xF6 ∷ []) ≡ 0x5514 ∷ []
unfolding legal number
byte_F6_after_0 = refl

byte_F6_after_1 : legal true (0xF6 ∷ []) ≡ 0x5514 ∷ []
unfolding legal number
byte_F6_after_1 = refl

byte_01_after_0 : legal false (0x01 ∷ []) ≡ 0xAAA9 ∷ []
unfolding legal number
byte_01_after_0 = refl

byte_02_after_1 : legal true (0x02 ∷ []) ≡ 0x2AA4 ∷ []
unfolding legal number
byte_02_after_1 = refl

byte_CA_after_0 : legal false (0xCA ∷ []) ≡ 0x5244 ∷ []
unfolding legal number
byte_CA_after_0 = refl

byte_6F_after_0 : legal false (0x6F ∷ []) ≡ 0x9455 ∷ []
unfolding legal number
byte_6F_after_0 = refl

byte_6E_after_0 : legal false (0x6E ∷ []) ≡ 0x9454 ∷ []
unfolding legal number
byte_6E_after_0 = refl

byte_00_after_1 : legal true (0x00 ∷ []) ≡ 0x2AAA ∷ []
unfolding legal number
byte_00_after_1 = refl

-- the marks A1 and C2 are those bytes with a clock that no byte's cells lack
mark_A1 : byte_at (0x4489 ∷ []) 0 ≡ 0xA1
unfolding number
mark_A1 = refl

byte_A1 : legal false (0xA1 ∷ []) ≡ 0x44A9 ∷ []
unfolding legal number
byte_A1 = refl

mark_C2 : byte_at (0x5224 ∷ []) 0 ≡ 0xC2
unfolding number
mark_C2 = refl

byte_C2 : legal false (0xC2 ∷ []) ≡ 0x52A4 ∷ []
unfolding legal number
byte_C2 = refl

-- the cells of the mark C2 do stand in other bytes' cells, at another phase, so no field is found by them
mark_C2_in_bytes : cells_at (legal false (0x00 ∷ 0x29 ∷ [])) 15 ≡ 0x5224
unfolding legal number
mark_C2_in_bytes = refl

key : Chrn
key = record { c = 0; h = 0; r = 1; n = 2 }

-- the address field of the first sector of a 1.44 MB diskette
first_address : address_field key ≡ replicate 12 0xAAAA ++ (0x4489 ∷ 0x4489 ∷ 0x4489 ∷ 0x5554 ∷ 0xAAAA ∷ 0xAAAA ∷ 0xAAA9 ∷ 0x2AA4 ∷ 0x5244 ∷ 0x9455 ∷ [])
unfolding key legal number bits number_in row_of invert reduced divided remainder crc
first_address = refl
