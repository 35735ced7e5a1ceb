-- What is heard where the medium spins up first: words 0000, until it is at speed.
use Rattle.std.specs.Prelude.{◌≡◌, ℕ, ◌+◌, ◌<◌, ◌≤◌, true, false, Some, List, [], ◌∷◌, ◌++◌, replicate}
use Rattle.fdc_core.specs.Common.{DriveState, Past}
use Rattle.fdc_core.specs.Drives.Hearing.{Outset}

-- ---- what was heard

-- the words of a revolution. The words of the first revolution come after so many words 0000
abbrev pub turn_led : ℕ → List (List ℕ) → List ℕ → List ℕ
turn_led lead [] words = replicate lead 0 ++ words
turn_led lead (_ ∷ _) words = words

abbrev pub turns_led : ℕ → List (List ℕ) → List (List ℕ)
turns_led lead [] = []
turns_led lead (turn ∷ turns) = turn_led lead turns turn ∷ turns_led lead turns

-- so many words 0000 passed, and then what this history has
abbrev pub led : ℕ → Past → Past
led lead late = record late { turns = turns_led lead late.turns; seen = turn_led lead late.turns late.seen; steps = late.steps + lead }

-- no word of the track was heard, and none was written
abbrev pub unheard : Past → Past
unheard late = record late { turns = []; seen = []; words = []; steps = 0; barred = false }

abbrev pub IsUnheard : Past → Type 0
IsUnheard late = late ≡ unheard late

-- ---- the drive

-- the motor is on with that medium, whatever its speed, and no word has passed since
pub record IsTurningIn (outset : Outset) (drive : DriveState) : Type 0 where
  pub medium : drive.medium ≡ Some outset.disk
  pub cylinder : drive.cylinder ≡ outset.cylinder
  pub motor : drive.motor ≡ true
  pub place : drive.place ≡ outset.from
  pub inside : outset.from < outset.disk.words_per_track
  pub never_falls : outset.faults ≤ drive.faults

-- the medium spins up, for so many word times at least
pub record IsSpinning (outset : Outset) (lead : ℕ) (drive : DriveState) : Type 0 where
  pub turning : IsTurningIn outset drive
  pub slow : drive.spin < 6250
  pub since : lead ≤ drive.spin
