-- Commands that are under way, from their last byte on, and for how many device steps they are at most.
use Rattle.std.specs.Prelude.{◌≡◌, ◌⊎◌, ◌<◌, ◌≤◌, ℕ, ◌+◌, ◌*◌, max, Bool, true, false, not, ◌&&◌, ◌||◌, Option, None, Some, is_some, List, [], ◌∷◌, if◌then◌else◌}
use Rattle.laws_chip.specs.Common.{DriveState, has_ended_seek, is_seeking, DriveSeek, Results, IsInRange, is_held, ChipState, IsNewChip, has_bit, has_multitrack, sectors_to, verifying, WritesChip, step_words, ChipOpcode, Order, PacedSeek, ChipStage, Busy, Held}
use Rattle.laws_chip.specs.SectorLasting.{HasByteNumbers}
use Rattle.fdc_chip.specs.declared.code.ChipOpcode.TheVariants.{FormatTrack, ReadId, ReadTrack, Transfer, Verify}
use Rattle.laws_chip.specs.Beginning.{Completes}
use Rattle.laws_chip.specs.Calls.{Call, Does, WritesByte, is_reset}
use Rattle.laws_chip.specs.Lasting.{most_track_steps}
use Rattle.laws_chip.specs.PacedSeeks.{HeadsPaced, pulses_left}
use Rattle.laws_chip.specs.Seeks.{HeadsGo, most_of, steps_left}
use Rattle.laws_chip.specs.Sound.{IsSound}
use Rattle.laws_chip.specs.Told.{Tells}

-- ---- how many device steps

-- the sectors of a command from its first to its last one. With MT those of head 1 come after those of head 0
abbrev pub sectors_of : Order → ℕ
sectors_of order =
    sectors_to order.last_sector order.key.r
    + (if has_multitrack order.code && not (has_bit order.unit 0x04) then sectors_to order.last_sector 1 else 0)

-- an implied seek takes at most 256 device steps, and each sector 65,536. So does the READ ID that looks which cylinder
-- passes, where a sector isn't found
abbrev pub most_sector_steps : Order → ℕ
most_sector_steps order = 256 + 65536 * (sectors_of order + 1)

-- the device steps that a command takes at most once it is executed. A VERIFY is a READ DATA
abbrev pub most_steps_of : ChipOpcode → Order → ℕ
most_steps_of (ReadId _) order = 65536
most_steps_of (FormatTrack _) order = 65536
most_steps_of (Transfer _) order = most_sector_steps order
most_steps_of (Verify _) order = most_sector_steps (verifying order)
most_steps_of (ReadTrack _) order = most_track_steps order
most_steps_of _ order = 0

-- ---- ---- under way

-- a command is held or executed
abbrev pub has_command : ChipStage → Bool
has_command Held = true
has_command (Busy task) = true
has_command _ = false

-- the numbers of the chip are those of registers and bytes, as `ranges` ensures
pub record HasRanges (chip : ChipState) : Type 0 where
  pub controller : IsInRange chip.front.adapter.controller
  pub records : HasByteNumbers chip.front.stage

-- a command is under way
pub record IsWorking (chip : ChipState) : Type 0 where
  pub works : has_command chip.stage ≡ true
  pub ranges : HasRanges chip

-- any calls, after each of which a command is under way
abbrev pub AreWorking : List Call → ChipState → ChipState → Type 0
AreWorking [] old new = new ≡ old
AreWorking (made ∷ calls) old new =
    (between : ChipState) × Does made old between × WritesByte made × IsWorking between × AreWorking calls between new

-- ---- ---- heads that move

-- the device steps that the seek in the inner controller still takes at most
abbrev pub seek_steps : Option DriveSeek → ℕ
seek_steps None = 0
seek_steps (Some seek) = steps_left seek.motion

-- the device steps for which heads move at most, if pulses come in so many word times. The inner controller takes at
-- most 256 for a pulse, and as many for the command that ends the seek
abbrev pub heads_steps : ℕ → Option PacedSeek → Option DriveSeek → ℕ
heads_steps words None seek = seek_steps seek
heads_steps words (Some pace) seek = max pace.wait (seek_steps seek) + (pulses_left pace * (max words 256 + 1) + 257)

abbrev pub heads_of : ChipState → ℕ
heads_of chip = heads_steps (step_words chip.settings) chip.pace chip.front.adapter.controller.seeks.seek

-- heads move for at most so many device steps. No seek that has ended keeps the inner controller
pub record HeadsMove (left : ℕ) (chip : ChipState) : Type 0 where
  pub runs : has_ended_seek chip.front.adapter.controller.seeks ≡ false
  pub some : 1 ≤ heads_of chip
  pub within : heads_of chip ≤ left

-- a command that is held waits for heads, for at most so many device steps: those of the pulses that come in the time
-- that SPECIFY sets, and those of the seek in the inner controller
pub data WaitsFor (left : ℕ) (chip : ChipState) : Type 0 where
  move : HeadsMove left chip → WaitsFor left chip
  go : (drive : ℕ) (goal : Option ℕ) → HeadsGo left drive goal Held chip → WaitsFor left chip
  pace : (pulses drive : ℕ) (goal : Option ℕ) → HeadsPaced pulses drive goal Held chip → pulses + most_of goal ≤ left → WaitsFor left chip

-- the device steps for which a command waits at most: none if it isn't held
abbrev pub wait_at : ChipStage → ChipState → ℕ
wait_at Held chip = heads_of chip
wait_at _ chip = 0

abbrev pub wait_of : ChipState → ℕ
wait_of chip = wait_at chip.stage chip

-- a sound chip is given the last byte of a command, which is then under way. If it is held, it waits for heads for at
-- most so many device steps
pub record IsGiven (wait : ℕ) (code : ChipOpcode) (byte : ℕ) (old new : ChipState) : Type 0 where
  pub sound : IsSound old
  pub few : byte < 256
  pub last : Completes code byte old
  pub writes : WritesChip 0x3F5 byte old new
  pub working : IsWorking new
  pub waits : new.stage ≡ Held → WaitsFor wait new

-- ---- the end

-- any calls but a reset
abbrev pub AreWithoutReset : List Call → ChipState → ChipState → Type 0
AreWithoutReset [] old new = new ≡ old
AreWithoutReset (made ∷ calls) old new =
    (between : ChipState) × Does made old between × WritesByte made × (is_reset made ≡ false) × HasRanges between × AreWithoutReset calls between new

-- the command stays under way up to one of the calls, and with this call its results are told with INT
abbrev pub EndsAmong : (calls : List Call) (old new : ChipState) → AreWithoutReset calls old new → Type 0
EndsAmong [] old new same = ⊥
EndsAmong (made ∷ calls) old new are =
    ((results : Results) × Tells results are.0) ⊎ ((has_command are.0.stage ≡ true) × EndsAmong calls are.0 new are.5)

-- ---- a chip that was used

-- any calls, after each of which the numbers of the chip are those of registers and bytes
abbrev pub AreUses : List Call → ChipState → ChipState → Type 0
AreUses [] old new = new ≡ old
AreUses (made ∷ calls) old new = (between : ChipState) × Does made old between × WritesByte made × HasRanges between × AreUses calls between new

-- the chip was made new, and then used by any calls
pub record IsUsed (chip : ChipState) : Type 0 where
  pub bay0 : DriveState
  pub bay1 : DriveState
  pub made : ChipState
  pub new : IsNewChip bay0 bay1 made
  pub ranges : HasRanges made
  pub calls : List Call
  pub uses : AreUses calls made chip

-- ---- ---- the end of a seek

-- pulses are to come, or a seek runs in the inner controller
abbrev pub heads_go : ChipState → Bool
heads_go chip = is_some chip.pace || is_seeking chip.front.adapter.controller.seeks

abbrev pub is_executed : ChipStage → Bool
is_executed (Busy task) = true
is_executed _ = false

-- heads move, and no command is executed. DOR doesn't hold the chip in reset, and SPECIFY sets at most so many word times
-- between two pulses
pub record HeadsGoOn (words : ℕ) (chip : ChipState) : Type 0 where
  pub goes : heads_go chip ≡ true
  pub idle : is_executed chip.stage ≡ false
  pub free : is_held chip.front.adapter.controller ≡ false
  pub pace : step_words chip.settings ≤ words
  pub ranges : HasRanges chip

-- a command that is held stays held
abbrev pub StaysHeld : ChipStage → ChipStage → Type 0
StaysHeld Held new = new ≡ Held
StaysHeld _ new = Unit {0}

-- any calls, after each of which these heads still move
abbrev pub AreSeeking : ℕ → List Call → ChipState → ChipState → Type 0
AreSeeking words [] old new = new ≡ old
AreSeeking words (made ∷ calls) old new =
    (between : ChipState) × Does made old between × WritesByte made × HeadsGoOn words between × StaysHeld old.stage between.stage
    × AreSeeking words calls between new
