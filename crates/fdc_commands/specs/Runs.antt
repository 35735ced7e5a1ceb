-- What a whole seek gives, over a run of device steps.
use Rattle.std.specs.Prelude.{◌≡◌, ◌⊎◌, ◌≤◌, ◌+◌, ◌-◌, ℕ, Bool, false, List, [], ◌∷◌, Option, Some, None, nat_lt, replicate, slice_index, length, IsTrue}
use Rattle.fdc_commands.specs.Seeking.{Seeking, with_motion, ended, sought, recalibrated, polled, with_polls, pulse_due, stepped, sensed, after_sense}
use Rattle.fdc_commands.specs.declared.motion.Motion.TheVariants.{Outward, Toward}

-- the seeks after device steps with these track 0 lines
abbrev pub after_steps : Seeking → List Bool → Seeking
after_steps seeks [] = seeks
after_steps seeks (track0 ∷ lines) = after_steps (stepped seeks track0) lines

-- the pulses of device steps with these track 0 lines
abbrev pub pulses_of : Seeking → List Bool → List (Option Bool)
pulses_of seeks [] = []
pulses_of seeks (track0 ∷ lines) = pulse_due seeks track0 ∷ pulses_of (stepped seeks track0) lines

-- how far apart two cylinders are
abbrev pub distance : ℕ → ℕ → ℕ
distance a b = (a - b) + (b - a)

-- the next device step gives no pulse and ends the seek
pub record EndsIn (seeks : Seeking) (track0 : Bool) (ending : Seeking) : Type 0 where
  pub pulse : pulse_due seeks track0 ≡ None
  pub state : stepped seeks track0 ≡ ending

-- each of the device steps gives a pulse this way, and none of them changes a present cylinder number or a result
pub record StepsOnly (begun : Seeking) (lines : List Bool) (inward : Bool) : Type 0 where
  pub pulses : pulses_of begun lines ≡ replicate (length lines) (Some inward)
  pub cylinders : (after_steps begun lines).cylinders ≡ begun.cylinders
  pub pending : (after_steps begun lines).pending ≡ begun.pending

-- a SEEK steps toward its target, whatever the track 0 line is. It gives as many pulses as its cylinders are apart;
-- then it ends on the target
abbrev pub SeekLaw : Type 0
SeekLaw = (old : Seeking) (drive target : ℕ) (lines : List Bool)
    → let from = slice_index old.cylinders drive in
    let begun = with_motion old drive (Toward from target) in
    length lines ≤ distance from target
    → StepsOnly begun lines (nat_lt from target)
    × (length lines ≡ distance from target → (track0 : Bool)
    → EndsIn (after_steps begun lines) track0 (ended old drive target (sought drive)))

-- a RECALIBRATE steps outward while the head is not over track 0, at most 79 times. Once track 0 is reached, or after
-- 79 pulses, it ends on cylinder 0
abbrev pub RecalibrateLaw : Type 0
RecalibrateLaw = (old : Seeking) (drive steps : ℕ)
    → let begun = with_motion old drive (Outward 79) in
    let lines = replicate steps false in
    steps ≤ 79
    → StepsOnly begun lines false
    × ((track0 : Bool) → IsTrue track0 ⊎ (steps ≡ 79)
    → EndsIn (after_steps begun lines) track0 (ended old drive 0 (recalibrated drive track0)))

-- after a poll, four SENSE INTERRUPTs give each drive's result with its present cylinder number, in the order of the
-- drives. Then no result is pending
abbrev pub PollLaw : Type 0
PollLaw = (old : Seeking)
    → let first = with_polls old in
    let second = after_sense first in
    let third = after_sense second in
    let fourth = after_sense third in
    (sensed first ≡ Some (polled 0, slice_index old.cylinders 0))
    × (sensed second ≡ Some (polled 1, slice_index old.cylinders 1))
    × (sensed third ≡ Some (polled 2, slice_index old.cylinders 2))
    × (sensed fourth ≡ Some (polled 3, slice_index old.cylinders 3))
    × (sensed (after_sense fourth) ≡ None)
