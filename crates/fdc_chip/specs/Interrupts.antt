-- The results of seeks and polls, the present cylinder numbers, and the interrupt line.
use Rattle.std.specs.Prelude.{◌≡◌, ℕ, ◌%◌, Bool, true, false, ◌==◌, List, [], ◌∷◌, Option, Some, None, is_some, unwrap_or, if◌then◌else◌, bit_and, option_map, position, slice_index, slice_index_or, slice_set, length}
use Rattle.fdc_chip.specs.Common.{option_map_or, bit_or, seek_end}

-- ST0 of each drive's pending result, the present cylinder number of each drive, and INT, if DOR lets it out
pub record Interrupting : Type 0 where
  pub pending : List (Option ℕ)
  pub cylinders : List ℕ
  pub line : Bool

-- there are four drives
pub record AreFour (interrupts : Interrupting) : Type 0 where
  pub pending : length interrupts.pending ≡ 4
  pub cylinders : length interrupts.cylinders ≡ 4

-- no result is pending, and each drive counts as at cylinder 0
abbrev pub at_rest : Interrupting
at_rest = record {
  pending = None ∷ None ∷ None ∷ None ∷ [];
  cylinders = 0 ∷ 0 ∷ 0 ∷ 0 ∷ [];
  line = false;
}

-- a drive's result is pending in place of an older one, and INT is up
abbrev pub with_result : ℕ → ℕ → Interrupting → Interrupting
with_result status cylinder old = record {
  pending = slice_set old.pending (status % 4) (Some status);
  cylinders = slice_set old.cylinders (status % 4) cylinder;
  line = true;
}

-- the result of a unit's drive is dropped, and INT is down
abbrev pub without_results_of : ℕ → Interrupting → Interrupting
without_results_of unit old = record old { pending = slice_set old.pending (unit % 4) None; line = false }

-- ST0 of a drive's result
abbrev pub status_of : Interrupting → ℕ → ℕ
status_of interrupts drive = unwrap_or (slice_index_or interrupts.pending drive None) 0

-- what SENSE INTERRUPT takes: ST0 of the lowest drive that has a result, and its present cylinder number
abbrev pub first_pending : Interrupting → Option ℕ
first_pending interrupts = position is_some interrupts.pending

abbrev pub sensed : Interrupting → Option (ℕ × ℕ)
sensed old = option_map (λ drive. (status_of old drive, slice_index old.cylinders drive)) (first_pending old)

-- after that result was taken, INT is down
abbrev pub after_sense : Interrupting → Interrupting
after_sense old =
    option_map_or (λ drive. record old { pending = slice_set old.pending drive None; line = false }) (first_pending old) old

-- the seek bit of a drive is set until the result of its seek is taken
abbrev pub seek_bit_of : ℕ → ℕ → ℕ
seek_bit_of status bit = if bit_and status seek_end == 0 then 0 else bit

abbrev pub seek_bit : Option ℕ → ℕ → ℕ
seek_bit None bit = 0
seek_bit (Some status) bit = seek_bit_of status bit

abbrev pub seek_bits : Interrupting → ℕ
seek_bits interrupts = let pending = interrupts.pending in
    bit_or (bit_or (seek_bit (slice_index_or pending 0 None) 1) (seek_bit (slice_index_or pending 1 None) 2))
    (bit_or (seek_bit (slice_index_or pending 2 None) 4) (seek_bit (slice_index_or pending 3 None) 8))

-- the present cylinder number of a unit's drive
abbrev pub cylinder_of : ℕ → Interrupting → ℕ
cylinder_of unit interrupts = slice_index interrupts.cylinders (unit % 4)

abbrev pub with_cylinder : ℕ → ℕ → Interrupting → Interrupting
with_cylinder unit cylinder old = record old { cylinders = slice_set old.cylinders (unit % 4) cylinder }
