-- User memory, and ranges of it.
use Rattle.std.specs.Prelude.{◌≡◌, ℕ, ◌+◌, ◌<◌, ◌≤◌, ◌⊎◌, List, length, replicate, take, drop, slice_index}

-- the bytes of user memory, from 00000 to EFFFF
abbrev pub user_bytes : ℕ
user_bytes = 983040

-- `count` bytes 00 or words 0000
unfoldable pub zeroes : ℕ → List ℕ
zeroes count = replicate count 0

-- the bytes of memory from an address on
abbrev pub bytes_from : List ℕ → ℕ → ℕ → List ℕ
bytes_from memory address count = take count (drop address memory)

-- memory is the same but for a range
pub record SameOutside (address count : ℕ) (old new : List ℕ) : Type 0 where
  pub length : length new ≡ length old
  pub others : (k : ℕ) → ((k < address) ⊎ (address + count ≤ k)) → slice_index new k ≡ slice_index old k
