-- How long a command lasts, in device steps.
use Rattle.std.specs.Prelude.{◌≡◌, ℕ, ◌+◌, ◌*◌, true, List, [], ◌∷◌}
use Rattle.laws_chip.specs.SectorLasting.{is_under_way}
use Rattle.laws_chip.specs.Common.{ChipState, sectors_of_track, Order, ChipStage, Busy}
use Rattle.fdc_chip.specs.declared.stage.ChipTask.TheVariants as task
use Rattle.fdc_chip.specs.declared.stage.ChipTask.TheVariants.{Verify}
use Rattle.fdc_chip.specs.declared.stage.Track.{Track}
use Rattle.laws_chip.specs.Calls.{Call, Does, WritesByte}

-- these calls, after each of which the chip is at this stage
abbrev pub AreAt : ChipStage → List Call → ChipState → ChipState → Type 0
AreAt stage [] old new = new ≡ old
AreAt stage (made ∷ calls) old new =
    (between : ChipState) × Does made old between × WritesByte made × (between.stage ≡ stage) × AreAt stage calls between new

-- a VERIFY is under way
pub record IsVerifying (chip : ChipState) : Type 0 where
  pub left : ℕ
  pub verifies : chip.stage ≡ Busy (Verify left)
  pub under_way : is_under_way chip.front.stage ≡ true

-- these calls, after each of which a VERIFY is under way
abbrev pub AreVerified : List Call → ChipState → ChipState → Type 0
AreVerified [] old new = new ≡ old
AreVerified (made ∷ calls) old new = (between : ChipState) × Does made old between × IsVerifying between × AreVerified calls between new

-- ---- READ TRACK

-- a READ TRACK is under way
pub record IsTracking (chip : ChipState) : Type 0 where
  pub track : Track
  pub reads : chip.stage ≡ Busy (task.Track track)

-- these calls, after each of which a READ TRACK is under way
abbrev pub AreTracked : List Call → ChipState → ChipState → Type 0
AreTracked [] old new = new ≡ old
AreTracked (made ∷ calls) old new =
    (between : ChipState) × Does made old between × WritesByte made × IsTracking between × AreTracked calls between new

-- the search for the index takes as many device steps as a command of one sector. Each sector takes as many again, and
-- READ ID before it 65,536
abbrev pub most_track_steps : Order → ℕ
most_track_steps order = 65792 + 131328 * sectors_of_track order
