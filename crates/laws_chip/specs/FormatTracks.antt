-- FORMAT TRACK over a medium at speed that nobody touches.
use Rattle.std.specs.Prelude.{◌≡◌, ◌≤◌, ℕ, ◌+◌, Bool, true, false, ◌==◌, Some, List, [], ◌∷◌, ◌++◌}
use Rattle.laws_chip.specs.Common.{IsDisk, DriveState, Numbers, Past, head_of, Outset, FormatTells, LaysTrack, Fdc, drive_at, selected_at, GivesCommand, GivesFront, ChipState, passes_by_port, Begins, is_size, Order, ChipStage, Sent}
use Rattle.fdc_commands.specs.declared.command.Command.TheVariants.{FormatTrack}
use Rattle.fdc_core.specs.Drives.Writing.{HasMedium, start_in}
use Rattle.laws_chip.specs.Serving.{passed_in}
use Rattle.laws_chip.specs.Beginning.{IsFreeBehind}
use Rattle.laws_chip.specs.Calls as call
use Rattle.laws_chip.specs.Calls.{Call}
use Rattle.laws_chip.specs.Lasting.{AreAt}

-- the size code is the third byte of the command, the count of sectors the fourth, gap 3 the fifth, and the filler the
-- sixth
abbrev pub numbers_of : Order → Numbers
numbers_of order = record { n = order.key.c; sectors = order.key.h; gap3 = order.key.r; fill = order.key.n }

-- the inner controller, which was free, executes a FORMAT of this head and drive
pub record IsFormatBegun (unit : ℕ) (numbers : Numbers) (new : ChipState) : Type 0 where
  pub sized : is_size numbers.n ≡ true
  pub set : ChipState
  pub free : IsFreeBehind set.front
  pub begins : Begins Sent (GivesCommand (FormatTrack unit numbers.n numbers.sectors numbers.gap3 numbers.fill)) set new

-- ---- ---- the bytes of the sector IDs

-- a byte at the data port is taken, or not
abbrev pub GivesByte : Bool → ℕ → ChipState → ChipState → List ℕ → Type 0
GivesByte true value old new bytes = (was : Bool) × GivesFront value old.front was new.front × (bytes ≡ passed_in was value)
GivesByte false value old new bytes = bytes ≡ []

-- the byte that a call gave
abbrev pub GivesAs : Call → ChipState → ChipState → List ℕ → Type 0
GivesAs (call.Gives byte was) old new bytes = bytes ≡ passed_in was byte
GivesAs (call.Writes port value) old new bytes = GivesByte (passes_by_port old) value old new bytes
GivesAs _ old new bytes = bytes ≡ []

-- all bytes that the calls gave, in order
abbrev pub GiveAll : (stage : ChipStage) (calls : List Call) (old new : ChipState) → AreAt stage calls old new → List ℕ → Type 0
GiveAll stage [] old new same bytes = bytes ≡ []
GiveAll stage (made ∷ calls) old new at bytes =
    (first : List ℕ) × (rest : List ℕ) × GivesAs made old at.0 first × GiveAll stage calls at.0 new at.4 rest × (bytes ≡ first ++ rest)

-- ---- the medium

-- the call doesn't change a medium by hand, and writes no port but the data port
abbrev pub lets_drives : Call → Bool
lets_drives call.Changes = false
lets_drives (call.Writes port value) = port == 0x3F5
lets_drives _ = true

abbrev pub LetDrives : List Call → Type 0
LetDrives [] = Unit {0}
LetDrives (made ∷ calls) = (lets_drives made ≡ true) × LetDrives calls

-- DOR selects the bay, and the drive there turns at speed, in the state that the outset has
pub record TurnsAtSpeed (outset : Outset) (bay unit : ℕ) (chip : ChipState) : Type 0 where
  pub bay_is : bay ≤ 1
  pub selects : selected_at chip.front.adapter ≡ bay
  pub disk : IsDisk outset.disk
  pub head : outset.head ≡ head_of unit
  pub rate : chip.front.adapter.controller.rate ≡ outset.rate
  pub medium : (drive_at chip.front.adapter bay).medium ≡ Some outset.disk
  pub cylinder : (drive_at chip.front.adapter bay).cylinder ≡ outset.cylinder
  pub motor : (drive_at chip.front.adapter bay).motor ≡ true
  pub speed : 6250 ≤ (drive_at chip.front.adapter bay).spin
  pub place : (drive_at chip.front.adapter bay).place ≡ outset.from
  pub faults : (drive_at chip.front.adapter bay).faults ≡ outset.faults
  pub inside : outset.from + 1 ≤ outset.disk.words_per_track

-- the words that were written are the first of the layout of sector IDs whose bytes begin with those that were given.
-- They stand on the track under the head, and nothing else of the medium changed. Results with IC 00 say that all words
-- of the layout were written
pub record LaysKeys (outset : Outset) (unit : ℕ) (numbers : Numbers) (given : List ℕ) (fdc : Fdc) (drive : DriveState) : Type 0 where
  pub past : Past
  pub taken : past.taken ≡ given
  pub lays : LaysTrack past numbers
  pub stands : HasMedium outset (start_in outset past) past.words drive
  pub tells : FormatTells past unit numbers fdc
