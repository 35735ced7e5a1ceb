-- What the register of a separator keeps of the words fed: bit 0 is the last cell.
use Rattle.std.specs.Prelude.{◌≡◌, ◌≢◌, ℕ, ◌+◌, ◌-◌, ◌*◌, ◌/◌, ◌%◌, ◌^◌, ◌<◌, ◌≤◌, List, length, slice_index}
use Rattle.std.specs.Int.{bit_at}
use Rattle.flop_base.specs.declared.key.Chrn.{Chrn}
use Rattle.track_model.specs.Cells.{number, cell}
use Rattle.track_model.specs.Crc.{crc}
use Rattle.track_model.specs.Fields.{address_bytes}

-- no word from a cell on is zero
abbrev pub HasNoZeroFrom : List ℕ → ℕ → Type 0
HasNoZeroFrom fed s = (q : ℕ) → s ≤ q → q < 16 * length fed → slice_index fed (q / 16) ≢ 0

-- the register has the cells from s on
abbrev pub KeepsFrom : List ℕ → ℕ → ℕ → Type 0
KeepsFrom fed cells s = (q : ℕ) → s ≤ q → q < 16 * length fed → bit_at cells (16 * length fed - 1 - q) ≡ cell fed q

-- the register has the cells from `start` on, and ones before them
pub record IsTail (fed : List ℕ) (cells start : ℕ) : Type 0 where
  pub within : start ≤ 16 * length fed
  pub near : 16 * length fed ≤ start + 128
  pub no_zero : HasNoZeroFrom fed start
  pub kept : KeepsFrom fed cells start
  pub ones : (i : ℕ) → 16 * length fed ≤ start + i → i < 128 → bit_at cells i ≡ 1

abbrev pub HasTail : List ℕ → ℕ → Type 0
HasTail fed cells = (start : ℕ) × IsTail fed cells start

-- what was recorded of the last 128 cells, from a cell on, is in the register
abbrev pub IsFull : List ℕ → ℕ → ℕ → Type 0
IsFull fed cells from = (s : ℕ) → from ≤ s → 16 * length fed ≤ s + 128 → HasNoZeroFrom fed s → KeepsFrom fed cells s

-- all 128 bits are ones
abbrev pub IsBlank : ℕ → Type 0
IsBlank cells = (i : ℕ) → i < 128 → bit_at cells i ≡ 1

-- the register after a word was shifted in
pub record IsShifted (cells word after : ℕ) : Type 0 where
  pub last : (i : ℕ) → i < 16 → bit_at after i ≡ bit_at word i
  pub before : (i : ℕ) → 16 ≤ i → i < 128 → bit_at after i ≡ bit_at cells (i - 16)

-- the register after a word; a word 0000 leaves nothing in it
pub record IsNext (cells word after : ℕ) : Type 0 where
  pub shifted : word ≢ 0 → IsShifted cells word after
  pub blank : word ≡ 0 → IsBlank after

-- a run in the register has `back` cells behind it
abbrev pub HasRunBits : ℕ → ℕ → Type 0
HasRunBits cells back = cells / 2 ^ back % 2 ^ 48 ≡ 0x448944894489

-- the byte that has `back` cells behind it
abbrev pub register_byte : ℕ → ℕ → ℕ
register_byte cells back = number (λ i. bit_at cells (back + (14 - 2 * i))) 8

-- the CRC that has `back` cells behind it: two bytes
abbrev pub register_check : ℕ → ℕ → ℕ
register_check cells back = 256 * register_byte cells (back + 16) + register_byte cells back

-- the key and the CRC of an address field that has `back` cells behind it
pub record IsKeyIn (cells back : ℕ) (key : Chrn) : Type 0 where
  pub cylinder : register_byte cells (back + 80) ≡ key.c
  pub head : register_byte cells (back + 64) ≡ key.h
  pub sector : register_byte cells (back + 48) ≡ key.r
  pub size : register_byte cells (back + 32) ≡ key.n
  pub check : register_check cells back ≡ crc (address_bytes key)
