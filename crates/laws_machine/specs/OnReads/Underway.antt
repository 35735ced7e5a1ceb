-- What a command that listens heard, and the bytes that a READ DATA gave.
use Rattle.std.specs.Prelude.{◌≡◌, ◌⊎◌, ℕ, ◌+◌, ◌<◌, ◌≤◌, Bool, true, false, List, length, slice_index}
use Rattle.laws_machine.specs.Common.{DriveState, Channel, grants, writes_memory, place_of, Past, IsHearingSince}
use Rattle.laws_machine.specs.OnReads.Scenes.{Scene, outset_of}

-- ---- the words

-- the words heard are those of the track, and all of them if the drive had no fault
abbrev pub IsHearing : Scene → Past → Bool → DriveState → Type 0
IsHearing scene = IsHearingSince (outset_of scene)

-- ---- the bytes

-- memory is as it was, except that these bytes stand from an address on
pub record HasBytes (address : ℕ) (bytes old new : List ℕ) : Type 0 where
  pub lengths : length new ≡ length old
  pub put : (i : ℕ) → i < length bytes → slice_index new (address + i) ≡ slice_index bytes i
  pub others : (k : ℕ) → (k < address) ⊎ (address + length bytes ≤ k) → slice_index new k ≡ slice_index old k

-- the channel puts the next byte at an address, and `left` more bytes behind it in the same page
pub record IsSet (channel : Channel) (address left : ℕ) : Type 0 where
  pub granting : grants channel ≡ true
  pub writing : writes_memory channel ≡ true
  pub place : place_of channel ≡ address
  pub count : channel.count ≡ left
  pub room : channel.address + left < 65536

-- the bytes given are in memory from the range's first address on, and nothing else changed there; the channel goes on
-- behind these bytes until the range is full
pub record IsMoved (scene : Scene) (given : List ℕ) (counted : Bool) (memory : List ℕ) (channel : Channel) : Type 0 where
  pub bytes : HasBytes scene.address given scene.memory memory
  pub goes_on : counted ≡ false → (left : ℕ) × (length given + (left + 1) ≡ scene.size) × IsSet channel (scene.address + length given) left
  pub over : counted ≡ true → (grants channel ≡ false) × (length given ≡ scene.size)
