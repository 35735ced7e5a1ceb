-- How a bay is acknowledged.
use Rattle.std.specs.Prelude.{◌≡◌, ℕ, ◌-◌, Bool, true, false, Some, None, IsSome, ◌⊎◌, if◌then◌else◌}
use Rattle.floppy_driver.specs.Common.{Chrn, Rate, R500, R250, IsAddress, in_bay, faults_of, FaultsRoseBy, GoesOn, IsDriven, HasClearAddress}
use Rattle.floppy_driver.specs.Rigs.{Rig, StaysSpun, HeadsStay, track_under}
use Rattle.floppy_driver.specs.declared.driver.Notes.{Notes}

-- a drive was worked with: media, memory and the other drive stayed as they were
pub record Works (bay : ℕ) (old new : Rig) : Type 0 where
  pub media : new.media ≡ old.media
  pub memory : new.memory ≡ old.memory
  pub spun : StaysSpun old.spun new.spun
  pub other_cylinder : in_bay new.cylinders (1 - bay) ≡ in_bay old.cylinders (1 - bay)
  pub other_number : in_bay new.numbers (1 - bay) ≡ in_bay old.numbers (1 - bay)
  pub other_change : in_bay new.changes (1 - bay) ≡ in_bay old.changes (1 - bay)
  pub empty : in_bay old.media bay ≡ None → in_bay new.changes bay ≡ in_bay old.changes bay
  pub counts : GoesOn old.counters new.counters

-- the heads step in and out, and end at track 0 if it is reached. If a medium is in and the change line stays set, a
-- pulse was lost
pub record ClearsChange (bay : ℕ) (old : Rig) (reached : Bool) (new : Rig) : Type 0 where
  pub works : Works bay old new
  pub driven : IsDriven 0 old.counters new.counters
  pub number : in_bay new.numbers bay ≡ 0
  pub arrives : reached ≡ true → in_bay new.cylinders bay ≡ 0
  pub lost : reached ≡ false → FaultsRoseBy 77 bay old.counters new.counters
  pub clears : IsSome (in_bay old.media bay) → in_bay new.changes bay ≡ true → FaultsRoseBy 1 bay old.counters new.counters

-- at most `most` data commands, which read and changed neither media nor memory
pub record OnlyReads (most : ℕ) (old new : Rig) : Type 0 where
  pub heads : HeadsStay old new
  pub media : new.media ≡ old.media
  pub memory : new.memory ≡ old.memory
  pub counts : GoesOn old.counters new.counters
  pub driven : IsDriven most old.counters new.counters

-- the track under the first head has an address field at this rate
abbrev pub HasStart : Rig → ℕ → Rate → Type 0
HasStart rig bay rate = (p : ℕ) × IsAddress (track_under rig bay rate 0) p

-- if that track has a Clear address field at R250, `count` commands that looked for it had a fault
abbrev pub IsSpoilt : ℕ → ℕ → Rig → Rig → Type 0
IsSpoilt bay count old new =
    (key : Chrn) → HasClearAddress (track_under old bay R250 0) key → FaultsRoseBy count bay old.counters new.counters

-- a rate was looked for. It is R250 if an address field was found at R250. It is R500 if one was found at R500, or none
-- at all
pub record FindsRate (bay : ℕ) (old : Rig) (rate : Rate) (new : Rig) : Type 0 where
  pub reads : OnlyReads 6 old new
  pub double : rate ≡ R250 → HasStart old bay R250
  pub single : rate ≡ R500 → HasStart old bay R500 ⊎ IsSpoilt bay 3 old new

-- a bay is held from now on: its rate was found, and its drive's count is kept
pub record IsHeldSince (bay : ℕ) (old : Rig) (reached : Bool) (notes : Notes) (new : Rig) : Type 0 where
  pub finds : FindsRate bay old notes.rate new
  pub gate : notes.gate ≡ true
  pub kept : notes.kept ≡ faults_of new.counters bay
  pub known : notes.known ≡ (if reached then Some 0 else None)
