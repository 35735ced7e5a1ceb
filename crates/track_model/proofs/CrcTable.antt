-- The table against the division of its rows, and a step by the table.
use Rattle.std.proofs.Common.{◌≡◌, ℕ, ◌*◌, ◌/◌, ◌%◌, ◌^◌, ◌<◌, ◌≤◌, Bool, true, eqb, List, [], ◌∷◌, ◌++◌, length, get_or, refl, sym, ap, ◌∙◌, arith}
use Rattle.track_model.proofs.Common.{bit_xor, agree_below_at, eqb-true, xor_of_8, xor_of_16, crc}
use Rattle.track_model.specs.Crc.{bits, number_in, row_of, invert, reduced, divided, remainder, crc_from}
use Rattle.track_model.proofs.CrcSteps.{crc_from_below, crc_from_none, crc-append, crc_from-cons}
use Rattle.track_model.specs.declared.crc.TheConstants.{TABLE}

is_entry : ℕ → Bool
is_entry index = eqb (get_or TABLE index 0) (crc_from 0 (index ∷ []))

-- each of the 256 entries, divided bit by bit
entry_of : (index : ℕ) → index < 256 → get_or TABLE index 0 ≡ crc_from 0 (index ∷ [])
unfolding is_entry bits number_in row_of invert reduced divided remainder crc_from
entry_of index below =
    eqb-true (get_or TABLE index 0) (crc_from 0 (index ∷ [])) (agree_below_at is_entry (λ _. true) 256 index refl below)

-- what the code computes
abbrev stepped : ℕ → ℕ → ℕ
stepped check byte = bit_xor (check * 256 % 65536) (get_or TABLE (bit_xor (check / 256) byte) 0)

module _ (check byte : ℕ) (fits : check < 2 ^ 16) (small : byte < 2 ^ 8) where
  index_below : bit_xor (check / 256) byte < 256
  index_below = xor_of_8 (check / 256) byte (omega arith) small

  pub stepped_goes_on : (rest : List ℕ) → crc_from check (byte ∷ rest) ≡ crc_from (stepped check byte) rest
  stepped_goes_on rest =
      crc_from-cons check byte rest
      ∙ ap (λ e. crc_from (bit_xor (check * 256 % 65536) e) rest) (sym (entry_of (bit_xor (check / 256) byte) index_below))

  stepped_fits : stepped check byte < 2 ^ 16
  stepped_fits =
      let index = bit_xor (check / 256) byte in
      let is = entry_of index index_below in
      xor_of_16 (check * 256 % 65536) (get_or TABLE index 0) (omega arith) (omega (arith, crc_from_below 0 (index ∷ [])))

  pub stepped_extends : (bytes : List ℕ) → 2 ≤ length bytes → check ≡ crc bytes → stepped check byte ≡ crc (bytes ++ byte ∷ [])
  stepped_extends bytes two is =
      sym (crc_from_none (stepped check byte) stepped_fits)
      ∙ sym (stepped_goes_on [])
      ∙ ap (λ c. crc_from c (byte ∷ [])) is
      ∙ sym (crc-append bytes (byte ∷ []) two)
