-- Seeks whose pulses come in the time that SPECIFY sets.
use Rattle.std.specs.Prelude.{◌≡◌, ℕ, ◌+◌, ◌-◌, ◌*◌, max, min, Bool, true, false, not, ◌==◌, ◌&&◌, ◌||◌, Option, Some, None, is_none, if◌then◌else◌, nat_le, nat_lt, unwrap_or}
use Rattle.fdc_chip.specs.Common.{is_ready, recalibrated_outside}
use Rattle.fdc_chip.specs.Chips.{ChipState, with_front}
use Rattle.fdc_chip.specs.Doing.{GivesOn, drained, moving, moves_heads}
use Rattle.fdc_chip.specs.Settings.{step_words}
use Rattle.fdc_chip.specs.declared.pace.PacedSeek.{PacedSeek}

-- the cylinder to which the seek goes, by the number that the controller counts. It is 0 for a RECALIBRATE
abbrev pub target_of : PacedSeek → ℕ
target_of pace = unwrap_or pace.goal 0

-- the seek is one cylinder nearer after a pulse, and waits this many word times until the next
abbrev pub stepped : ℕ → PacedSeek → PacedSeek
stepped words pace = record pace {
  cylinder = if nat_lt pace.cylinder (target_of pace) then pace.cylinder + 1 else pace.cylinder - 1;
  left = pace.left - 1;
  wait = words;
}

-- whether the seek is at its cylinder by the number, or is a RECALIBRATE that gave all its pulses
abbrev pub is_over : PacedSeek → Bool
is_over pace = (pace.cylinder == target_of pace) || (is_none pace.goal && (pace.left == 0))

-- whether the time is over, and the inner controller takes the next command
abbrev pub is_due : PacedSeek → ChipState → Bool
is_due pace chip = (nat_le pace.wait 1 && is_ready chip.front) && not (moves_heads chip.front)

-- the inner controller is given what ends the seek: a SEEK of its cylinder, or a RECALIBRATE with at most the pulses
-- that are left of the 79
abbrev pub EndsAt : Option ℕ → PacedSeek → ChipState → ChipState → Type 0
EndsAt (Some target) pace old new = GivesOn (moving pace.unit (Some target)) old new
EndsAt None pace old new = new ≡ with_front (recalibrated_outside pace.unit pace.left old.front) old

-- a seek that is over ends. Otherwise the inner controller is given a SEEK by one cylinder
abbrev pub PulsesIf : Bool → PacedSeek → ChipState → ChipState → Type 0
PulsesIf true pace old new = EndsAt pace.goal pace (record old { pace = None }) new
PulsesIf false pace old new = let next = stepped (step_words old.settings) pace in
    GivesOn (moving pace.unit (Some next.cylinder)) (record old { pace = Some next }) new

abbrev pub GoesOnIf : Bool → PacedSeek → ChipState → ChipState → Type 0
GoesOnIf true pace old new = PulsesIf (is_over pace) pace old new
GoesOnIf false pace old new = new ≡ record old { pace = Some (record pace { wait = pace.wait - 1 }) }

-- what a device step makes of the seek
abbrev pub GoesOn : PacedSeek → ChipState → ChipState → Type 0
GoesOn pace old new = GoesOnIf (is_due pace old) pace old new

-- what a device step makes of the seek, after the results of the inner controller were taken over. Results of the poll
-- are reported, and those of a SEEK by one cylinder aren't
abbrev pub Paces : Option PacedSeek → ChipState → ChipState → Type 0
Paces None old new = new ≡ old
Paces (Some pace) old new = GoesOn pace (drained old) new

-- ---- how long such a seek takes

-- the pulses from this cylinder to the target. A RECALIBRATE has no target: it gives the pulses to cylinder 0, but never
-- more than `most`
abbrev pub pulses_to : Option ℕ → ℕ → ℕ → ℕ
pulses_to None cylinder most = min cylinder most
pulses_to (Some target) cylinder most = (cylinder - target) + (target - cylinder)

-- the pulses that come before the seek is over
abbrev pub pulses_left : PacedSeek → ℕ
pulses_left pace = pulses_to pace.goal pace.cylinder pace.left

-- the device steps up to the one in which the inner controller is given the command that ends the seek. So many word
-- times pass from one pulse to the next
abbrev pub steps_left : ℕ → PacedSeek → ℕ
steps_left words pace = max pace.wait 1 + pulses_left pace * words
