-- The seeks of the four drives, device step by device step.
use Rattle.std.specs.Prelude.{◌≡◌, ◌<◌, ◌≤◌, ◌+◌, ◌-◌, ◌^◌, ◌==◌, ◌||◌, ◌&&◌, ℕ, Bool, true, false, List, [], ◌∷◌, Option, Some, None, is_some, IsSome, IsSomeAnd, IsTrue, IsFalse, not, unwrap_or, min, option_map, if◌then◌else◌, nat_lt, slice_set, slice_index, slice_index_or, position, length}
use Rattle.std.specs.Option.{option_map_or, ForSome}
use Rattle.std.specs.Int.RustNames.{bit_or}
use Rattle.fdc_registers.specs.St0.{polling, abnormal, seek_end, equipment_check}
use Rattle.fdc_commands.specs.declared.motion.Seek.{Seek}
use Rattle.fdc_commands.specs.declared.motion.Motion.{Motion}
use Rattle.fdc_commands.specs.declared.motion.Motion.TheVariants.{Outward, Toward, Ended}

-- what the controller keeps of its seeks
pub record Seeking : Type 0 where
  -- the present cylinder number of each drive
  pub cylinders : List ℕ
  -- the seek whose bit is set in the main status register: at most one drive has its bit set
  pub seek : Option Seek
  -- ST0 of each drive's pending result
  pub pending : List (Option ℕ)

-- the numbers of a seek are bytes, and a RECALIBRATE gives at most 79 pulses
abbrev pub IsMotion : Motion → Type 0
IsMotion (Outward pulses) = pulses ≤ 79
IsMotion (Toward cylinder target) = (cylinder < 256) × (target < 256)
IsMotion Ended = Unit {0}

-- there are four drives, and the seek is of one of them
pub record InRange (seeking : Seeking) : Type 0 where
  pub cylinders : length seeking.cylinders ≡ 4
  pub pending : length seeking.pending ≡ 4
  pub drive : ForSome seeking.seek (λ seek. seek.drive < 4)
  pub motion : ForSome seeking.seek (λ seek. IsMotion seek.motion)

-- no seek, no pending result, and the present cylinder number of each drive is 0
abbrev pub at_rest : Seeking
at_rest = record {
  cylinders = 0 ∷ 0 ∷ 0 ∷ 0 ∷ [];
  seek = None;
  pending = None ∷ None ∷ None ∷ None ∷ [];
}

-- ST0 of a drive's poll after a reset
abbrev pub polled : ℕ → ℕ
polled drive = bit_or polling drive

-- ST0 at the end of a SEEK
abbrev pub sought : ℕ → ℕ
sought drive = bit_or seek_end drive

-- ST0 at the end of a RECALIBRATE, by the track 0 line
abbrev pub recalibrated : ℕ → Bool → ℕ
recalibrated drive track0 =
    if track0 then sought drive else bit_or (bit_or (sought drive) abnormal) equipment_check

-- each drive's result of the poll is pending, in place of an older result
abbrev pub with_polls : Seeking → Seeking
with_polls old = record old {
  pending = Some (polled 0) ∷ Some (polled 1) ∷ Some (polled 2) ∷ Some (polled 3) ∷ [];
}

-- the drive's seek bit is set, and its seek does this
abbrev pub with_motion : Seeking → ℕ → Motion → Seeking
with_motion old drive motion = record old { seek = Some (record { drive = drive; motion = motion }) }

-- how many pulses a RECALIBRATE gives at most, if it is asked for this many: never more than 79
abbrev pub pulses_within : ℕ → ℕ
pulses_within pulses = if nat_lt pulses 79 then pulses else 79

-- the drive's seek has ended at a cylinder, and its result is pending in place of an older one
abbrev pub ended : Seeking → ℕ → ℕ → ℕ → Seeking
ended old drive cylinder status = record {
  cylinders = slice_set old.cylinders drive cylinder;
  seek = Some (record { drive = drive; motion = Ended });
  pending = slice_set old.pending drive (Some status);
}

-- whether a seek has ended
abbrev pub has_ended : Motion → Bool
has_ended Ended = true
has_ended _ = false

-- whether a seek runs: its bit is set, and it hasn't ended
abbrev pub is_seeking : Seeking → Bool
is_seeking seeking = option_map_or (λ seek. not (has_ended seek.motion)) seeking.seek false

-- the seek that ran has ended. The bit of its drive is still set, and a result of that drive is pending
pub record EndsSeek (old new : Seeking) : Type 0 where
  pub ran : IsTrue (is_seeking old)
  pub over : IsFalse (is_seeking new)
  pub drive : option_map (λ seek. seek.drive) new.seek ≡ option_map (λ seek. seek.drive) old.seek
  pub pending : IsSomeAnd new.seek (λ seek. IsSome (slice_index_or new.pending seek.drive None))

-- the next cylinder on the way to the target
abbrev pub neighbour : ℕ → ℕ → ℕ
neighbour cylinder target = if nat_lt cylinder target then cylinder + 1 else cylinder - 1

-- the pulse of a device step, by the track 0 line: true is inward. There is none in the step that ends the seek, and
-- none after it
abbrev pub pulse_of : Motion → Bool → Option Bool
pulse_of (Outward pulses) track0 = if track0 || (pulses == 0) then None else Some false
pulse_of (Toward cylinder target) track0 = if cylinder == target then None else Some (nat_lt cylinder target)
pulse_of Ended track0 = None

-- what a device step makes of a drive's seek
abbrev pub stepped_seek : Seeking → ℕ → Motion → Bool → Seeking
stepped_seek old drive (Outward pulses) track0 =
    if track0 || (pulses == 0) then ended old drive 0 (recalibrated drive track0)
    else with_motion old drive (Outward (pulses - 1))
stepped_seek old drive (Toward cylinder target) track0 =
    if cylinder == target then ended old drive target (sought drive)
    else with_motion old drive (Toward (neighbour cylinder target) target)
stepped_seek old drive Ended track0 = old

-- the pulse that is due in a device step, or none if no seek runs
abbrev pub pulse_due : Seeking → Bool → Option Bool
pulse_due old track0 = option_map_or (λ seek. pulse_of seek.motion track0) old.seek None

-- what a device step makes of the seeks
abbrev pub stepped : Seeking → Bool → Seeking
stepped old track0 = option_map_or (λ seek. stepped_seek old seek.drive seek.motion track0) old.seek old

-- the seek bits of the main status register; bit 0 is that of drive 0
abbrev pub seek_bits : Seeking → ℕ
seek_bits seeking = option_map_or (λ seek. 2 ^ seek.drive) seeking.seek 0

-- the lowest drive with a pending result
abbrev pub first_pending : Seeking → Option ℕ
first_pending seeking = position is_some seeking.pending

-- ST0 of a drive's pending result
abbrev pub status_of : Seeking → ℕ → ℕ
status_of seeking drive = unwrap_or (slice_index_or seeking.pending drive None) 0

-- the result that SENSE INTERRUPT takes: ST0 of the lowest drive that has one, and its present
-- cylinder number
abbrev pub sensed : Seeking → Option (ℕ × ℕ)
sensed old = option_map (λ drive. (status_of old drive, slice_index old.cylinders drive)) (first_pending old)

-- the seek after a result of the drive was taken: if it is a seek of that drive and has ended, its bit is cleared
abbrev pub released : ℕ → Option Seek → Option Seek
released drive None = None
released drive (Some seek) = if (seek.drive == drive) && has_ended seek.motion then None else Some seek

-- the pending result of the drive is taken; if its seek has ended, the seek bit is cleared too
abbrev pub without_result : Seeking → ℕ → Seeking
without_result old drive = record {
  cylinders = old.cylinders;
  seek = released drive old.seek;
  pending = slice_set old.pending drive None;
}

-- what SENSE INTERRUPT makes of the seeks
abbrev pub after_sense : Seeking → Seeking
after_sense old = option_map_or (without_result old) (first_pending old) old

-- the seek whose bit is set has ended
abbrev pub has_ended_seek : Seeking → Bool
has_ended_seek seeks = option_map_or (λ seek. has_ended seek.motion) seeks.seek false

-- a seek that has ended is dropped, together with its result
abbrev pub without_ended : Seeking → Seeking
without_ended old =
    option_map_or (λ seek. if has_ended seek.motion then record old {
      seek = None;
      pending = slice_set old.pending seek.drive None;
    } else old) old.seek old

-- ---- how long a seek surely goes on

-- the pulses that a motion surely still gives, if the heads of its drive stand on this cylinder: as many device steps
-- don't end it. A RECALIBRATE gives no more pulses than there are cylinders to track 0, unless pulses are lost
abbrev pub pulses_from : ℕ → Motion → ℕ
pulses_from cylinder (Outward pulses) = min pulses cylinder
pulses_from cylinder (Toward from target) = (from - target) + (target - from)
pulses_from cylinder Ended = 0

-- the pulses that the seek surely still gives, or 0 if none runs
abbrev pub pulses_ahead : ℕ → Seeking → ℕ
pulses_ahead cylinder seeking = option_map_or (λ seek. pulses_from cylinder seek.motion) seeking.seek 0
