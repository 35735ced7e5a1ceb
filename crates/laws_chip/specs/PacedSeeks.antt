-- Seeks whose pulses come in the time that SPECIFY sets, up to the command that ends them.
use Rattle.std.specs.Prelude.{◌≡◌, ◌⊎◌, ◌≤◌, ℕ, ◌+◌, ◌-◌, ◌*◌, ◌%◌, max, min, Bool, false, Option, Some, None, [], ◌∷◌, length, slice_index}
use Rattle.laws_chip.specs.Common.{Taking, is_held, Front, Through, ChipState, code_of, is_whole, with_next, step_words, PacedSeek, ChipStage}
use Rattle.laws_chip.specs.Seeks.{SeeksBehind}

-- ---- pulses

-- the pulses from this cylinder to the target. A RECALIBRATE has no target: it gives the pulses to cylinder 0, but never
-- more than `most`
abbrev pub pulses_to : Option ℕ → ℕ → ℕ → ℕ
pulses_to None cylinder most = min cylinder most
pulses_to (Some target) cylinder most = (cylinder - target) + (target - cylinder)

-- the pulses that come before the seek is over
abbrev pub pulses_left : PacedSeek → ℕ
pulses_left pace = pulses_to pace.goal pace.cylinder pace.left

-- the device steps that so many pulses take at most, with so many word times from one pulse to the next. The inner
-- controller takes two device steps for a pulse, and SPECIFY sets no shorter time. Its own number of the first cylinder
-- may be another one, so for the first pulse it takes up to 254 more. One device step gives the last command
abbrev pub most_paced : ℕ → ℕ → ℕ
most_paced words pulses = pulses * max words 2 + 255

-- ---- the inner controller

-- the inner controller counts the drive at this cylinder. If it may count another one, its SEEK for the next pulse takes
-- up to 254 device steps more, and `apart` allows for them
abbrev pub CountsAt : ℕ → ℕ → ℕ → Front → Type 0
CountsAt apart drive cylinder front = (slice_index front.adapter.controller.seeks.cylinders drive ≡ cylinder) ⊎ (254 ≤ apart)

-- the inner controller takes the next command. No seek is under way there, no result is pending, and no poll is to come
pub record StandsBehind (apart drive cylinder : ℕ) (front : Front) : Type 0 where
  pub through : front.stage ≡ Through
  pub takes : front.adapter.controller.phase ≡ Taking
  pub whole : front.adapter.controller.command ≡ []
  pub free : is_held front.adapter.controller ≡ false
  pub polled : front.adapter.controller.poll_due ≡ false
  pub seek : front.adapter.controller.seeks.seek ≡ None
  pub pending : front.adapter.controller.seeks.pending ≡ None ∷ None ∷ None ∷ None ∷ []
  pub four : length front.adapter.controller.seeks.cylinders ≡ 4
  pub counts : CountsAt apart drive cylinder front

-- between two pulses the inner controller takes the next command. After a pulse its SEEK to this cylinder is under way,
-- for one device step and at most `behind` more
abbrev pub GoesBehind : ℕ → ℕ → ℕ → ℕ → Front → Type 0
GoesBehind behind apart drive cylinder front = StandsBehind apart drive cylinder front ⊎ SeeksBehind (behind + 1) drive (Some cylinder) front

-- ---- the chip

-- the device steps that the rest of such a seek takes at most. The next pulse comes once its time is over and the inner
-- controller is done with the one before
abbrev pub most_left : ℕ → ℕ → ℕ → PacedSeek → ℕ
most_left behind apart words pace = max pace.wait (behind + 1) + apart + pulses_left pace * max words 2

-- pulses of a seek of this drive are to come, and the chip is at this stage. In at most `left` device steps the inner
-- controller is given the command that ends the seek
pub record HeadsPaced (left drive : ℕ) (goal : Option ℕ) (stage : ChipStage) (chip : ChipState) : Type 0 where
  pub at : chip.stage ≡ stage
  pub few : drive ≤ 3
  pub pace : PacedSeek
  pub paced : chip.pace ≡ Some pace
  pub drive_is : pace.unit % 4 ≡ drive
  pub goal_is : pace.goal ≡ goal
  pub behind : ℕ
  pub apart : ℕ
  pub going : GoesBehind behind apart drive pace.cylinder chip.front
  pub within : most_left behind apart (step_words chip.settings) pace ≤ left

-- whether this byte is the last one of a command
abbrev pub completes : ℕ → ChipState → Bool
completes byte old = let next = with_next byte old in is_whole next.count (code_of next.order.code)
