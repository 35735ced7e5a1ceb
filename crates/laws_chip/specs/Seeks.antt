-- Seeks that give a pulse in each device step.
use Rattle.std.specs.Prelude.{◌≡◌, ◌≤◌, ℕ, ◌+◌, ◌-◌, Bool, true, false, Option, Some, None, [], ◌∷◌, length, unwrap_or}
use Rattle.laws_chip.specs.Common.{recalibrated, sought, Taking, IsInRange, is_held, lines_at, Front, Through, ChipState, moves_heads, relative_target, Interrupting, cylinder_of, with_result, ChipOpcode, Recalibrate, RelativeSeek, Seek, Order, ChipStage, Ready, Held}
use Rattle.fdc_commands.specs.declared.motion.Motion.{Motion}
use Rattle.fdc_commands.specs.declared.motion.Motion.TheVariants.{Outward, Toward, Ended}
use Rattle.laws_chip.specs.Sound.{IsSound}

-- a sound chip, whose controller has numbers that its registers hold
pub record IsSoundInRange (chip : ChipState) : Type 0 where
  pub sound : IsSound chip
  pub range : IsInRange chip.front.adapter.controller

-- ---- where heads go

-- where a command moves the heads: a RECALIBRATE to track 0, and a SEEK or RELATIVE SEEK to a cylinder, which may
-- depend on these cylinder numbers
abbrev pub goal_of : ChipOpcode → Order → Interrupting → Option (Option ℕ)
goal_of Recalibrate order interrupts = Some None
goal_of Seek order interrupts = Some (Some order.key.c)
goal_of (RelativeSeek inward) order interrupts = Some (Some (relative_target inward (cylinder_of order.unit interrupts) order.key.c))
goal_of _ order interrupts = None

abbrev pub GoesTo : Option ℕ → Motion → Type 0
GoesTo None (Outward pulses) = Unit {0}
GoesTo (Some target) (Toward cylinder to) = to ≡ target
GoesTo _ _ = ⊥

-- the device steps that a motion still takes at most
abbrev pub steps_left : Motion → ℕ
steps_left (Outward pulses) = pulses + 1
steps_left (Toward cylinder target) = (cylinder - target) + (target - cylinder) + 1
steps_left Ended = 0

-- the device steps that a whole motion takes at most: 79 pulses of a RECALIBRATE, or those over 255 cylinders, and one
-- step more
abbrev pub most_of : Option ℕ → ℕ
most_of None = 80
most_of (Some target) = 256

-- ST0 at the end of the motion, by the track 0 line: 20 with the drive, or 70 for a RECALIBRATE that doesn't reach
-- track 0
abbrev pub status_at_end : Option ℕ → ℕ → Bool → ℕ
status_at_end None drive track0 = recalibrated drive track0
status_at_end (Some target) drive track0 = sought drive

-- ---- ---- while heads move

-- no command is under way, or one is held
abbrev pub waits_for_heads : ChipStage → Bool
waits_for_heads Ready = true
waits_for_heads Held = true
waits_for_heads _ = false

-- nothing but a seek of this drive is under way in the inner controller, for at most so many device steps more. No
-- result is pending there, and no poll is to come
pub record SeeksBehind (left drive : ℕ) (goal : Option ℕ) (front : Front) : Type 0 where
  pub through : front.stage ≡ Through
  pub takes : front.adapter.controller.phase ≡ Taking
  pub whole : front.adapter.controller.command ≡ []
  pub free : is_held front.adapter.controller ≡ false
  pub polled : front.adapter.controller.poll_due ≡ false
  pub motion : Motion
  pub seek : front.adapter.controller.seeks.seek ≡ Some (record { drive = drive; motion = motion })
  pub goes : GoesTo goal motion
  pub within : steps_left motion ≤ left
  pub pending : front.adapter.controller.seeks.pending ≡ None ∷ None ∷ None ∷ None ∷ []
  pub four : length front.adapter.controller.seeks.cylinders ≡ 4

-- such a seek is under way, and the chip is at this stage, with no pulses that come in the time that SPECIFY sets
pub record HeadsGo (left drive : ℕ) (goal : Option ℕ) (stage : ChipStage) (chip : ChipState) : Type 0 where
  pub at : chip.stage ≡ stage
  pub unpaced : chip.pace ≡ None
  pub few : drive ≤ 3
  pub going : SeeksBehind left drive goal chip.front

-- ---- ---- heads stand

-- nothing is under way in the inner controller, and heads stand
pub record HeadsStand (front : Front) : Type 0 where
  pub through : front.stage ≡ Through
  pub takes : front.adapter.controller.phase ≡ Taking
  pub whole : front.adapter.controller.command ≡ []
  pub polled : front.adapter.controller.poll_due ≡ false
  pub seek : front.adapter.controller.seeks.seek ≡ None
  pub stand : moves_heads front ≡ false

-- the seek ended in a device step. Its result is pending, in place of an older one of the drive, and INT is up
pub record EndsBySignal (drive : ℕ) (goal : Option ℕ) (old new : ChipState) : Type 0 where
  pub stage : new.stage ≡ old.stage
  pub unpaced : new.pace ≡ None
  pub results : new.interrupts ≡ with_result (status_at_end goal drive (lines_at old.front.adapter).track0) (unwrap_or goal 0) old.interrupts
  pub standing : HeadsStand new.front
