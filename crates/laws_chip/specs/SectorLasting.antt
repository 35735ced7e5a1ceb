-- How long a command of several sectors lasts, in device steps.
use Rattle.std.specs.Prelude.{◌≡◌, ◌+◌, ◌-◌, ◌*◌, ◌%◌, ℕ, Bool, true, false, not, ◌&&◌, List, [], ◌∷◌, if◌then◌else◌}
use Rattle.laws_chip.specs.Common.{Results, Front, is_last, is_second_head, FrontStage, Seeking, Moving, Telling, Transfer}
pub use Rattle.fdc_sequencer.specs.Ranges.{HasByteRecords, HasByteNumbers}
use Rattle.laws_chip.specs.SectorCalls.{Call, Steps}

-- ---- sectors

-- the sectors of a head from this record to the last one. After record FF comes 00
abbrev pub records_from : ℕ → ℕ → ℕ
records_from last r = (last + 256 - r) % 256 + 1

-- with MT the sectors of head 1 come after those of head 0
abbrev pub goes_to_other : Transfer → Bool
goes_to_other at = at.opcode.multitrack && not (is_second_head at.head_drive)

-- the sectors of a command from this one on
abbrev pub sectors_from : Transfer → ℕ
sectors_from at = records_from at.last_sector at.key.r + (if goes_to_other at then records_from at.last_sector 1 else 0)

-- if another sector comes after this one, the numbers of its record and of the last record are bytes
abbrev pub HasRecords : Transfer → Type 0
HasRecords at = is_last at ≡ false → HasByteRecords at

-- ---- device steps

-- the heads seek, or a sector is moved
abbrev pub is_under_way : FrontStage → Bool
is_under_way (Seeking _ _) = true
is_under_way (Moving _) = true
is_under_way _ = false

-- how many of the calls are device steps
abbrev pub steps_of : Call → ℕ
steps_of Steps = 1
steps_of _ = 0

abbrev pub steps_in : List Call → ℕ
steps_in [] = 0
steps_in (call ∷ calls) = steps_of call + steps_in calls

-- an implied seek steps over at most 255 cylinders, and ends in one device step more. Each sector takes at most 65,536
abbrev pub most_steps : Transfer → ℕ
most_steps first = 256 + 65536 * sectors_from first

-- there are results
abbrev pub HasResults : Front → Type 0
HasResults front = (results : Results) × (front.stage ≡ Telling results)
