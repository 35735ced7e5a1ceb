-- The CRC byte by byte.
use Rattle.std.proofs.Common.{◌≡◌, ℕ, ◌+◌, ◌-◌, ◌*◌, ◌/◌, ◌%◌, ◌^◌, ◌<◌, ◌≤◌, Bool, true, false, List, [], ◌∷◌, ◌++◌, length, replicate, refl, sym, ◌∙◌, ap, subst, arith, length-append}
use Rattle.track_model.proofs.Common.{bit_xor, append-nil, length-replicate, xor_lt, xor_comm}
use Rattle.std.proofs.lemmas.Grind.{flat_map-append}
use Rattle.track_model.specs.Crc.{bits, number_in, row_of, invert, reduced, divided, remainder, crc, crc_from}
use Rattle.track_model.proofs.CrcRegister.{length-invert, invert-append, invert_front, invert-zeros, zeros_invert, after, length-after, after-append, divided_row, zeros, divided-zeros, sixteen_left}
use Rattle.track_model.proofs.CrcBits.{length-bits, bits_low, number_in_below, bits-number_in, number_in-bits_below, bits-append, invert-bits}

-- ---- the CRC as the register

length-row_of : (bytes : List ℕ) → length (row_of bytes) ≡ 8 * length bytes
unfolding row_of
length-row_of [] = refl
length-row_of (byte ∷ rest) =
    omega (arith, length-append (bits 8 byte) (row_of rest), length-bits 8 byte, length-row_of rest)

row_of-append : (bytes rest : List ℕ) → row_of (bytes ++ rest) ≡ row_of bytes ++ row_of rest
unfolding row_of
row_of-append bytes rest = flat_map-append (bits 8) bytes rest

row_of-single : (byte : ℕ) → row_of (byte ∷ []) ≡ bits 8 byte
unfolding row_of
row_of-single byte = append-nil (bits 8 byte)

bits_back : (register : List Bool) → length register ≡ 16 → bits 16 (number_in register) ≡ register
bits_back register long = subst (λ n. bits n (number_in register) ≡ register) long (bits-number_in register)

remainder-register : (row register : List Bool) → length register ≡ 16 → remainder (invert register (row ++ zeros)) ≡ number_in (after register row)
unfolding remainder
remainder-register row register e =
    let whole = invert register (row ++ zeros) in
    let count : length whole - 16 ≡ length row = omega (arith, length-invert register (row ++ zeros), length-append row zeros, length-replicate 16 false) in
    ap (λ n. number_in (divided n whole)) count ∙ ap number_in (divided-zeros row register e)

crc_from-after : (preset : ℕ) (bytes : List ℕ) → crc_from preset bytes ≡ number_in (after (bits 16 preset) (row_of bytes))
unfolding crc_from
crc_from-after preset bytes = remainder-register (row_of bytes) (bits 16 preset) (length-bits 16 preset)

crc-after : (bytes : List ℕ) → 2 ≤ length bytes → crc bytes ≡ number_in (after (replicate 16 true) (row_of bytes))
unfolding crc
crc-after bytes h =
    let long : length (replicate 16 true) ≤ length (row_of bytes) = omega (arith, length-row_of bytes, length-replicate 16 true) in
    ap remainder (sym (invert_front (replicate 16 true) (row_of bytes) zeros long)) ∙ remainder-register (row_of bytes) (replicate 16 true) (length-replicate 16 true)

-- ---- bytes that go on

remainder_below : (row : List Bool) → 16 ≤ length row → remainder row < 2 ^ 16
unfolding remainder
remainder_below row h =
    let left = divided (length row - 16) row in
    subst (λ n. number_in left < 2 ^ n) (sixteen_left row h) (number_in_below left)

-- a CRC has sixteen bits
pub crc_below : (bytes : List ℕ) → crc bytes < 2 ^ 16
unfolding crc
crc_below bytes =
    let front = invert (replicate 16 true) (row_of bytes) in
    remainder_below (front ++ zeros) (omega (arith, length-append front zeros, length-replicate 16 false))

pub crc_from_below : (preset : ℕ) (bytes : List ℕ) → crc_from preset bytes < 2 ^ 16
unfolding crc_from
crc_from_below preset bytes =
    let row = row_of bytes ++ zeros in
    let long : 16 ≤ length row = omega (arith, length-append (row_of bytes) zeros, length-replicate 16 false) in
    remainder_below (invert (bits 16 preset) row) (omega (arith, length-invert (bits 16 preset) row))

ones_are : replicate 16 true ≡ bits 16 0xFFFF
unfolding bits
ones_are = refl

-- the preset is FFFF
pub crc_is_from : (bytes : List ℕ) → 2 ≤ length bytes → crc bytes ≡ crc_from 0xFFFF bytes
crc_is_from bytes h =
    crc-after bytes h ∙ ap (λ register. number_in (after register (row_of bytes))) ones_are ∙ sym (crc_from-after 0xFFFF bytes)

no_more : (register : List Bool) → number_in (after register (row_of [])) ≡ number_in register
unfolding row_of after
no_more register = refl

-- a CRC that is followed by no bytes stays the same
pub crc_from_none : (check : ℕ) → check < 2 ^ 16 → crc_from check [] ≡ check
crc_from_none check h = crc_from-after check [] ∙ no_more (bits 16 check) ∙ number_in-bits_below 16 check h

-- bytes affect what follows them by their CRC alone
pub crc_from-append : (preset : ℕ) (bytes rest : List ℕ) → crc_from preset (bytes ++ rest) ≡ crc_from (crc_from preset bytes) rest
crc_from-append preset bytes rest =
    let register = after (bits 16 preset) (row_of bytes) in
    let long = length-after (row_of bytes) (bits 16 preset) (length-bits 16 preset) in
    let back : bits 16 (crc_from preset bytes) ≡ register = ap (bits 16) (crc_from-after preset bytes) ∙ bits_back register long in
    crc_from-after preset (bytes ++ rest)
    ∙ ap (λ row. number_in (after (bits 16 preset) row)) (row_of-append bytes rest)
    ∙ ap number_in (after-append (row_of bytes) (row_of rest) (bits 16 preset))
    ∙ sym (ap (λ r. number_in (after r (row_of rest))) back)
    ∙ sym (crc_from-after (crc_from preset bytes) rest)

-- the CRC of two or more bytes and of more after them goes on from the CRC of the first
pub crc-append : (bytes rest : List ℕ) → 2 ≤ length bytes → crc (bytes ++ rest) ≡ crc_from (crc bytes) rest
crc-append bytes rest h =
    let long : 2 ≤ length (bytes ++ rest) = omega (arith, length-append bytes rest) in
    crc_is_from (bytes ++ rest) long ∙ crc_from-append 0xFFFF bytes rest ∙ ap (λ check. crc_from check rest) (sym (crc_is_from bytes h))

-- ---- one byte

zeros_are : bits 16 0 ≡ zeros
unfolding bits
zeros_are = refl

bits_of_zero : bits 8 0 ≡ replicate 8 false
unfolding bits
bits_of_zero = refl

-- the bits of a table's entry
table_bits : (index : ℕ) → bits 16 (crc_from 0 (index ∷ [])) ≡ after zeros (bits 8 index)
table_bits index =
    let register = after zeros (bits 8 index) in
    let long = length-after (bits 8 index) zeros (length-replicate 16 false) in
    ap (bits 16) (crc_from-after 0 (index ∷ []) ∙ ap (λ p. number_in (after p (row_of (index ∷ [])))) zeros_are ∙ ap (λ row. number_in (after zeros row)) (row_of-single index)) ∙ bits_back register long

-- the lower eight bits, moved up
fallen_bits : (check : ℕ) → invert (bits 8 check) zeros ≡ bits 16 (check * 2 ^ 8 % 2 ^ 16)
fallen_bits check =
    let moved = check * 2 ^ 8 % 2 ^ 16 in
    let upper : moved / 2 ^ 8 ≡ check % 2 ^ 8 = omega arith in
    let shape : moved ≡ check % 2 ^ 8 * 2 ^ 8 + 0 = omega arith in
    let split : check ≡ check / 2 ^ 8 * 2 ^ 8 + check % 2 ^ 8 = omega arith in
    let eight : length (bits 8 check) ≡ 8 = length-bits 8 check in
    let fewer : length (bits 8 check) ≤ length (replicate 8 false) = omega (arith, eight, length-replicate 8 false) in
    let first : bits 8 (check % 2 ^ 8) ≡ bits 8 check = sym (ap (bits 8) split ∙ bits_low 8 8 (check / 2 ^ 8) (check % 2 ^ 8) (omega arith)) in
    let last : bits 8 moved ≡ replicate 8 false = ap (bits 8) shape ∙ bits_low 8 8 (check % 2 ^ 8) 0 (omega arith) ∙ bits_of_zero in
    invert_front (bits 8 check) (replicate 8 false) (replicate 8 false) fewer
    ∙ ap (λ r. r ++ replicate 8 false) (invert-zeros 8 (bits 8 check) eight ∙ sym (ap (bits 8) upper ∙ first))
    ∙ ap (λ r. bits 8 (moved / 2 ^ 8) ++ r) (sym last)
    ∙ sym (bits-append 8 8 16 moved refl)

module _ (check byte : ℕ) where
  index : ℕ
  index = bit_xor (check / 2 ^ 8) byte

  moved : ℕ
  moved = check * 2 ^ 8 % 2 ^ 16

  eight : length (bits 8 byte) ≡ length (bits 8 index)
  eight = length-bits 8 byte ∙ sym (length-bits 8 index)

  -- the upper eight bits and the byte meet; the lower eight bits stand behind them
  met : invert (bits 16 check) (bits 8 byte ++ zeros) ≡ bits 8 index ++ invert (bits 8 check) zeros
  unfolding index
  met =
      let same : length (bits 8 (check / 2 ^ 8)) ≡ length (bits 8 byte) = length-bits 8 (check / 2 ^ 8) ∙ sym (length-bits 8 byte) in
      ap (λ p. invert p (bits 8 byte ++ zeros)) (bits-append 8 8 16 check refl)
      ∙ invert-append (bits 8 (check / 2 ^ 8)) (bits 8 check) (bits 8 byte) zeros same
      ∙ ap (λ r. r ++ invert (bits 8 check) zeros) (invert-bits 8 (check / 2 ^ 8) byte)

  -- the bits that meet leave the table's entry, as if the lower eight bits were not there
  after_byte : after (bits 16 check) (bits 8 byte) ≡ invert (after zeros (bits 8 index)) (invert (bits 8 check) zeros)
  after_byte =
      sym (divided-zeros (bits 8 byte) (bits 16 check) (length-bits 16 check))
      ∙ ap (divided (length (bits 8 byte))) (met ∙ sym (zeros_invert 16 (bits 8 index ++ invert (bits 8 check) zeros)))
      ∙ ap (λ n. divided n (invert zeros (bits 8 index ++ invert (bits 8 check) zeros))) eight
      ∙ divided_row (bits 8 index) zeros (invert (bits 8 check) zeros) (length-replicate 16 false)

  byte_step : after (bits 16 check) (bits 8 byte) ≡ bits 16 (bit_xor (crc_from 0 (index ∷ [])) moved)
  unfolding moved
  byte_step =
      after_byte
      ∙ ap (λ p. invert p (invert (bits 8 check) zeros)) (sym (table_bits index))
      ∙ ap (invert (bits 16 (crc_from 0 (index ∷ [])))) (fallen_bits check)
      ∙ invert-bits 16 (crc_from 0 (index ∷ [])) moved

  one_byte : crc_from check (byte ∷ []) ≡ bit_xor (crc_from 0 (index ∷ [])) moved
  unfolding moved
  one_byte =
      let entry = crc_from 0 (index ∷ []) in
      let fits : bit_xor entry moved < 2 ^ 16 = xor_lt 16 entry moved (crc_from_below 0 (index ∷ [])) (omega arith) in
      crc_from-after check (byte ∷ [])
      ∙ ap (λ row. number_in (after (bits 16 check) row)) (row_of-single byte)
      ∙ ap number_in byte_step
      ∙ number_in-bits_below 16 (bit_xor entry moved) fits

-- the CRC after one more byte, computed from what each index alone leaves
pub crc_from-cons : (check byte : ℕ) (rest : List ℕ) → crc_from check (byte ∷ rest) ≡ crc_from (bit_xor (check * 2 ^ 8 % 2 ^ 16) (crc_from 0 (bit_xor (check / 2 ^ 8) byte ∷ []))) rest
unfolding index moved
crc_from-cons check byte rest =
    crc_from-append check (byte ∷ []) rest
    ∙ ap (λ c. crc_from c rest) (one_byte check byte ∙ xor_comm (crc_from 0 (index check byte ∷ [])) (moved check byte))

-- ---- the three A1 that begin a field

pub marks_crc : crc (0xA1 ∷ 0xA1 ∷ 0xA1 ∷ []) ≡ 0xCDB4
unfolding bits number_in row_of invert reduced divided remainder crc
marks_crc = refl

-- a field's CRC goes on from that of its three A1
pub crc-marks : (rest : List ℕ) → crc (0xA1 ∷ 0xA1 ∷ 0xA1 ∷ rest) ≡ crc_from 0xCDB4 rest
crc-marks rest =
    let marks : List ℕ = 0xA1 ∷ 0xA1 ∷ 0xA1 ∷ [] in
    crc-append marks rest (omega arith) ∙ ap (λ check. crc_from check rest) marks_crc
