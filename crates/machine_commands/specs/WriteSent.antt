-- What a WRITE DATA, WRITE DELETED DATA or FORMAT TRACK does at the ports.
use Rattle.std.specs.Prelude.{◌≡◌, ◌⊎◌, ◌<◌, ◌≤◌, List, length, slice_index, slice_set, ℕ, ◌+◌, ◌-◌, ◌*◌, Bool, [], ◌∷◌, Result, Ok, Err}
use Rattle.machine_commands.specs.Common.{sectors_at, standard_code, Chrn, Rate, Code, Board, channel_of, controller_of, holds_of, latch_of, memory_of, content_size, write_code}
use Rattle.sector_map.specs.Layings.{Format}
use Rattle.machine_commands.specs.Awaited.{Finishes, Prepares, SetsChannel, sector_bytes}
use Rattle.machine_commands.specs.Sending.{Sends}
use Rattle.machine_commands.specs.declared.motors.Motors.{Motors}
use Rattle.machine_commands.specs.declared.results.Done.{Done}

-- a write is set up and sent, and its end awaited
pub record SendsWriteBytes (motors : Motors) (bay : ℕ) (key : Chrn) (rate : Rate) (address : ℕ) (deleted : Bool) (old : Board) (outcome : Result Done Code) (new : Board) : Type 0 where
  pub ready : Board
  pub prepares : Prepares motors bay rate old ready
  pub set : Board
  pub sets : SetsChannel 0x4A address (content_size key.n - 1) ready set
  pub sent : Board
  pub sends : Sends (sector_bytes (write_code deleted) bay key rate) set sent
  pub finishes : Finishes sent outcome new

-- what a driver is answered where a command has no answer but that it was done
abbrev pub told_of : Result Done Code → Result (Unit {0}) Code
told_of (Ok done) = Ok tt
told_of (Err code) = Err code

-- the address of the keys of a format, in the driver's page
abbrev pub keys_at : ℕ
keys_at = 0xF8000

-- a FORMAT TRACK is set up and sent, and its end awaited
pub record SendsFormatBytes (motors : Motors) (bay : ℕ) (asked : Format) (old : Board) (outcome : Result Done Code) (new : Board) : Type 0 where
  pub ready : Board
  pub prepares : Prepares motors bay asked.rate old ready
  pub set : Board
  pub sets : SetsChannel 0x4A keys_at (sectors_at asked.rate * 4 - 1) ready set
  pub sent : Board
  pub sends : Sends (0x4D ∷ (asked.h * 4 + bay) ∷ standard_code ∷ sectors_at asked.rate ∷ asked.gap3 ∷ asked.fill ∷ []) set sent
  pub finishes : Finishes sent outcome new

-- ---- the keys of a format

-- only memory is changed
pub record OnlyMemory (old new : Board) : Type 0 where
  pub controller : controller_of new ≡ controller_of old
  pub channel : channel_of new ≡ channel_of old
  pub holding : holds_of new ≡ holds_of old
  pub latch : latch_of new ≡ latch_of old
  pub steps : new.bus.steps ≡ old.bus.steps
  pub gaps : new.bus.gaps ≡ old.bus.gaps
  pub direct : new.bus.direct ≡ old.bus.direct
  pub taken : new.bus.taken ≡ old.bus.taken
  pub first : new.first ≡ old.first
  pub second : new.second ≡ old.second

-- one byte of memory is changed
pub record PutsByte (address value : ℕ) (old new : Board) : Type 0 where
  pub only : OnlyMemory old new
  pub memory : memory_of new ≡ slice_set (memory_of old) address value

-- the four bytes of a key of 512 bytes stand from an address on
pub record IsKeyAt (memory : List ℕ) (address c h r : ℕ) : Type 0 where
  pub first : slice_index memory address ≡ c
  pub second : slice_index memory (address + 1) ≡ h
  pub third : slice_index memory (address + 2) ≡ r
  pub fourth : slice_index memory (address + 3) ≡ standard_code

-- the keys of so many records of a cylinder and head were put into the driver's page, from record 1 on
pub record PutsKeys (c h many : ℕ) (old new : Board) : Type 0 where
  pub only : OnlyMemory old new
  pub size : length (memory_of new) ≡ length (memory_of old)
  pub below : (k : ℕ) → k < keys_at → slice_index (memory_of new) k ≡ slice_index (memory_of old) k
  pub keys : (k : ℕ) → k < many → IsKeyAt (memory_of new) (keys_at + k * 4) c h (k + 1)

-- one key was put from an address on
pub record PutsKey (address c h r : ℕ) (old new : Board) : Type 0 where
  pub only : OnlyMemory old new
  pub size : length (memory_of new) ≡ length (memory_of old)
  pub key : IsKeyAt (memory_of new) address c h r
  pub others : (k : ℕ) → ((k < address) ⊎ (address + 4 ≤ k)) → slice_index (memory_of new) k ≡ slice_index (memory_of old) k
