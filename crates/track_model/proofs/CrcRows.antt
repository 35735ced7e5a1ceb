-- The CRC of address fields that are known from elsewhere: three A1, FE, cylinder, head, record, size code.
use Rattle.std.proofs.Common.{◌≡◌, [], ◌∷◌, refl}
use Rattle.std.specs.Prelude.{codes}
use Rattle.track_model.specs.Crc.{bits, number_in, row_of, invert, reduced, divided, remainder, crc, crc_from}

first_sector : crc (0xA1 ∷ 0xA1 ∷ 0xA1 ∷ 0xFE ∷ 0x00 ∷ 0x00 ∷ 0x01 ∷ 0x02 ∷ []) ≡ 0xCA6F
unfolding bits number_in row_of invert reduced divided remainder crc
first_sector = refl

second_sector : crc (0xA1 ∷ 0xA1 ∷ 0xA1 ∷ 0xFE ∷ 0x00 ∷ 0x00 ∷ 0x02 ∷ 0x02 ∷ []) ≡ 0x9F3C
unfolding bits number_in row_of invert reduced divided remainder crc
second_sector = refl

third_sector : crc (0xA1 ∷ 0xA1 ∷ 0xA1 ∷ 0xFE ∷ 0x00 ∷ 0x00 ∷ 0x03 ∷ 0x02 ∷ []) ≡ 0xAC0D
unfolding bits number_in row_of invert reduced divided remainder crc
third_sector = refl

second_head : crc (0xA1 ∷ 0xA1 ∷ 0xA1 ∷ 0xFE ∷ 0x00 ∷ 0x01 ∷ 0x01 ∷ 0x02 ∷ []) ≡ 0xFD5F
unfolding bits number_in row_of invert reduced divided remainder crc
second_head = refl

shorter_sector : crc (0xA1 ∷ 0xA1 ∷ 0xA1 ∷ 0xFE ∷ 0x00 ∷ 0x00 ∷ 0x01 ∷ 0x01 ∷ []) ≡ 0xFA0C
unfolding bits number_in row_of invert reduced divided remainder crc
shorter_sector = refl

-- and the last byte alone, from the CRC of those before it
last_byte : crc_from (crc (0xA1 ∷ 0xA1 ∷ 0xA1 ∷ 0xFE ∷ 0x00 ∷ 0x00 ∷ 0x01 ∷ [])) (0x02 ∷ []) ≡ 0xCA6F
unfolding bits number_in row_of invert reduced divided remainder crc crc_from
last_byte = refl

-- the check value that catalogues of CRCs give: of the digits 1 to 9
nine_digits : crc (codes "123456789") ≡ 0x29B1
unfolding bits number_in row_of invert reduced divided remainder crc
nine_digits = refl
