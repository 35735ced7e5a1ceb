-- What the counters of a station show, and how far they rise in a call.
use Rattle.std.specs.Prelude.{◌≡◌, ℕ, ◌+◌, ◌-◌, ◌<◌, ◌≤◌, ◌∷◌, All, List, Option}
use Rattle.flop_base.specs.Counts.{last_count, RoseBy, RoseLess, CanTell, Spends}
use Rattle.flop_base.specs.Bays.{Two, in_bay}

-- the counts of one drive
pub record DriveCounts : Type 0 where
  -- its faults
  pub faults : ℕ
  -- the most by which that count can still rise, if the drive reports it
  pub left : Option ℕ

-- all that is counted, of drives and machine
pub record Counters : Type 0 where
  -- of the drive in each bay
  pub drives : Two DriveCounts
  -- of each spare drive, the next one first
  pub spares : List DriveCounts
  -- the DMA requests that waited too long
  pub stalls : ℕ
  -- the most by which that count can still rise
  pub stalls_left : ℕ
  -- the data commands that began
  pub data_commands : ℕ
  -- the interrupts that were taken
  pub taken : ℕ
  -- the accesses past the driver: a byte of user memory is set, a medium is put in or taken out, or a drive is
  -- exchanged
  pub direct : ℕ
  -- the device steps so far, plus those of the gaps that are still to come after port accesses
  pub clock : ℕ
  -- the gaps that are still to come after port accesses. Each port access uses one up, while there are any
  pub gaps : ℕ

-- the faults of the drive in a bay
abbrev pub faults_of : Counters → ℕ → ℕ
faults_of counters bay = (in_bay counters.drives bay).faults

-- the faults of the bay's drive rose by n or more in a call
abbrev pub FaultsRoseBy : ℕ → ℕ → Counters → Counters → Type 0
FaultsRoseBy n bay old new = RoseBy n (faults_of old bay) (faults_of new bay)

-- the faults of the bay's drive rose by less than n in a call
abbrev pub FaultsRoseLess : ℕ → ℕ → Counters → Counters → Type 0
FaultsRoseLess n bay old new = RoseLess n (faults_of old bay) (faults_of new bay)

-- the bay's drive had no fault in a call
abbrev pub IsFaultless : ℕ → Counters → Counters → Type 0
IsFaultless bay old new = FaultsRoseLess 1 bay old new

-- the faults of the bay's drive and the stalls rose by less than n together
pub record DisturbedLess (n bay : ℕ) (old new : Counters) : Type 0 where
  pub faults : faults_of new bay < last_count
  pub stalls : new.stalls < last_count
  pub together : faults_of new bay + new.stalls < faults_of old bay + old.stalls + n

-- neither a fault of the bay's drive nor a stall disturbed a call
abbrev pub IsUndisturbed : ℕ → Counters → Counters → Type 0
IsUndisturbed bay old new = DisturbedLess 1 bay old new

-- how the counts of one drive change: its count of faults never falls, and rises by no more than what was left of it
pub record DriveGoesOn (old new : DriveCounts) : Type 0 where
  pub never_falls : old.faults ≤ new.faults
  pub spends : Spends old.faults old.left new.faults new.left

-- how counts change in a call that exchanges no drive. None falls. The counts of faults and stalls rise by no more than
-- what was left of them
pub record GoesOn (old new : Counters) : Type 0 where
  pub first : DriveGoesOn old.drives.first new.drives.first
  pub second : DriveGoesOn old.drives.second new.drives.second
  pub spares : new.spares ≡ old.spares
  pub stalls : old.stalls ≤ new.stalls
  pub stalls_spent : new.stalls + new.stalls_left ≤ old.stalls + old.stalls_left
  pub data_commands : old.data_commands ≤ new.data_commands
  pub taken : old.taken ≤ new.taken
  pub direct : old.direct ≤ new.direct

-- a drive reports what is left of its faults only if their count can't reach its last value by that
abbrev pub DriveTells : DriveCounts → Type 0
DriveTells drive = CanTell drive.faults drive.left

-- this holds of all drives. The count of stalls is below its last value, and what is left of it doesn't lead past that
-- value
pub record TellsLeft (counters : Counters) : Type 0 where
  pub first : DriveTells counters.drives.first
  pub second : DriveTells counters.drives.second
  pub spares : All DriveTells counters.spares
  pub stalls : counters.stalls + counters.stalls_left ≤ last_count
  pub stalls_below : counters.stalls < last_count

-- a call of the driver: at most `most` data commands begin, at least one interrupt is taken for each, and nothing goes
-- past the driver
pub record IsDriven (most : ℕ) (old new : Counters) : Type 0 where
  pub most_commands : new.data_commands ≤ old.data_commands + most
  pub interrupts : RoseBy (new.data_commands - old.data_commands) old.taken new.taken
  pub past_driver : new.direct ≡ old.direct

-- a call lasts at most `most` device steps, not counting those of the gaps that it used up
abbrev pub LastsUpTo : ℕ → Counters → Counters → Type 0
LastsUpTo most old new = new.clock ≤ old.clock + most

-- a call makes at most `most` port accesses, and one more for each interrupt that it takes. The gaps show it: for each one
-- that was used up beyond `most`, an interrupt was taken
abbrev pub AccessesPortsUpTo : ℕ → Counters → Counters → Type 0
AccessesPortsUpTo most old new = RoseBy (old.gaps - new.gaps - most) old.taken new.taken

-- the device steps and the port accesses of a call are at most these
abbrev pub CostsUpTo : ℕ → ℕ → Counters → Counters → Type 0
CostsUpTo steps accesses old new = LastsUpTo steps old new × AccessesPortsUpTo accesses old new

-- a call past the driver makes at most `most` accesses past it, and begins no data command. It costs neither device steps
-- nor port accesses
pub record IsPastDriver (most : ℕ) (old new : Counters) : Type 0 where
  pub accesses : new.direct ≤ old.direct + most
  pub no_commands : new.data_commands ≡ old.data_commands
  pub no_cost : CostsUpTo 0 0 old new

-- how counters change when the next spare drive takes the place of the one in a bay: the spare brings its own counts
pub record TakesSpare (bay : ℕ) (old new : Counters) : Type 0 where
  pub other : in_bay new.drives (1 - bay) ≡ in_bay old.drives (1 - bay)
  pub spare : (next : DriveCounts) × (old.spares ≡ next ∷ new.spares) × DriveGoesOn next (in_bay new.drives bay)
  pub stalls : new.stalls ≡ old.stalls
  pub stalls_left : new.stalls_left ≡ old.stalls_left
  pub taken : new.taken ≡ old.taken
  pub direct : old.direct ≤ new.direct
