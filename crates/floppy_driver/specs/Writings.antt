-- An attempt at a write, and what several attempts made.
use Rattle.floppy_driver.specs.Common.{option_map_or, RoseBy, Rate, Code, NoMark, NotFound, Overrun, BadCrc, Seek, Disk, HasTrack, track_of, HasAddressMark, IsSector, IsUnder, window_word, window_words, in_bay, Counters, IsFaultless, FaultsRoseLess, FaultsRoseBy, IsUndisturbed, GoesOn, IsDriven, HasNoClearMark, HasClearAddress, HasLook, Change, Written, IsChange, StationState, Becomes, bay_of, set_bay, met, IsSteady, IsDeviceRefusal}
use Rattle.std.specs.Prelude.{false, ◌≡◌, ◌≢◌, ℕ, ◌+◌, ◌-◌, ◌<◌, ◌≤◌, List, slice_index, Option, Some, Result, Err, IsOk, IfErr, MatchOption, ◌⊎◌}
use Rattle.track_model.specs.declared.Look.TheVariants as look
use Rattle.sector_map.specs.ChangedDisks.{IsWholeChange}
use Rattle.floppy_driver.specs.Rigs.{Rig, HeadsStay, track_under}
use Rattle.floppy_driver.specs.Writing.{ChangesMedium}
use Rattle.floppy_driver.specs.declared.driver.Driver.{Driver}
use Rattle.floppy_driver.specs.Attempts.{CanTry}
use Rattle.sector_model.specs.Writes.{HasWindowCut, HasOtherContent}

-- the first bytes of two memories are alike, from 0 in the page and from an address in the other
abbrev pub AreBytesAlike : List ℕ → List ℕ → ℕ → ℕ → Type 0
AreBytesAlike page memory address count = (k : ℕ) → k < count → slice_index page k ≡ slice_index memory (address + k)

-- ---- a write that is read back, at the cylinder under the heads

-- the whole window was written
abbrev pub WroteWhole : Written → Option Change → Type 0
WroteWhole written change = MatchOption change ⊥ (IsWholeChange written)

-- why the write was refused, by what is met on the track after it
pub record IsMissCause (written : Written) (track : List ℕ) (change : Option Change) (bay : ℕ) (old : Counters) (code : Code) (new : Counters) : Type 0 where
  pub device : IsDeviceRefusal code
  pub no_mark : code ≡ NoMark → IsUndisturbed bay old new
      → (HasNoClearMark track ⊎ HasWindowCut track written.key
      ⊎ (WroteWhole written change × HasLook track written.key look.NoData))
  pub not_found : code ≡ NotFound → IsUndisturbed bay old new
      → HasAddressMark track × (HasClearAddress track written.key → ⊥)
  pub bad_data : code ≡ BadCrc → IsUndisturbed bay old new
      → WroteWhole written change × (HasLook track written.key look.BadCrc ⊎ HasOtherContent track written)
  pub overrun : code ≡ Overrun → RoseBy 1 old.stalls new.stalls
  pub lost : code ≡ Seek → FaultsRoseBy 77 bay old new
  pub sent : code ≢ Seek → RoseBy 1 old.data_commands new.data_commands
  -- the sector was read back
  pub read_back : code ≡ BadCrc → RoseBy 2 old.data_commands new.data_commands

-- what was written was read back, on this cylinder
pub record IsReadBack (written : Written) (medium : Option Disk) (rate : Rate) (cylinder : ℕ) (change : Option Change) (bay : ℕ) (old new : Counters) : Type 0 where
  pub disk : Disk
  pub is_in : medium ≡ Some disk
  pub same_rate : disk.rate ≡ rate
  pub track : HasTrack disk cylinder written.key.h
  pub under : IsUnder (track_of disk cylinder written.key.h) written.key written.deleted written.content
  pub whole : IsFaultless bay old new → WroteWhole written change
  pub sector : IsFaultless bay old new
      → IsSector (track_of disk cylinder written.key.h) written.key written.deleted written.content
  -- at most one fault came, either in the write or in the reading back
  pub nearly : FaultsRoseLess 2 bay old new
      → WroteWhole written change
      ⊎ IsSector (track_of disk cylinder written.key.h) written.key written.deleted written.content
  pub commands : RoseBy 2 old.data_commands new.data_commands

-- a write that is read back: the medium in the bay was changed by `change`, or not at all
pub record WritesChecked (bay : ℕ) (rate : Rate) (written : Written) (old : Rig) (answer : Result (Unit {0}) Code) (new : Rig) : Type 0 where
  pub change : Option Change
  pub heads : HeadsStay old new
  pub other_medium : in_bay new.media (1 - bay) ≡ in_bay old.media (1 - bay)
  pub memory : new.memory ≡ old.memory
  pub counts : GoesOn old.counters new.counters
  pub driven : IsDriven 2 old.counters new.counters
  pub does : MatchOption change (new.media ≡ old.media) (λ one. ChangesMedium bay rate written one old new)
  pub done : IsOk answer
      → IsReadBack written (in_bay new.media bay) rate (in_bay old.cylinders bay) change bay old.counters new.counters
  pub refused : IfErr answer (λ code.
      IsMissCause written (track_under new bay rate written.key.h) change bay old.counters code new.counters)
  -- the heads were in place already, so `Seek` isn't the answer
  pub placed : answer ≢ Err Seek

-- ---- one attempt

-- a bay in which an attempt can be made, with a medium that isn't protected
pub record CanWrite (driver : Driver) (rig : Rig) (bay : ℕ) : Type 0 where
  pub ready : CanTry driver rig bay
  pub unprotected : option_map_or (λ disk. disk.protected) (in_bay rig.media bay) false ≡ false

-- the medium in the bay was changed behind an address field of the key
pub record ChangesBay (written : Written) (bay : ℕ) (change : Change) (old new : StationState) : Type 0 where
  pub before : Disk
  pub after : Disk
  pub was : (bay_of old bay).medium ≡ Some before
  pub is : (bay_of new bay).medium ≡ Some after
  pub same_rate : before.rate ≡ (bay_of old bay).rate
  pub makes : IsChange written before change after
  pub whole : IsUndisturbed bay old.counters new.counters
      → window_word change.place + window_words written.key.n ≤ before.words_per_track
      → IsWholeChange written change

-- one attempt at a write, on this cylinder: the medium in the bay was changed by `change`, or not at all
pub record TriesWrite (sure : Type 0) (written : Written) (bay : ℕ) (old : StationState) (answer : Result (Unit {0}) Code) (new : StationState) : Type 0 where
  pub cylinder : ℕ
  pub change : Option Change
  pub becomes : Becomes (set_bay old bay (record (bay_of old bay) { medium = (bay_of new bay).medium })) new
  pub does : MatchOption change ((bay_of new bay).medium ≡ (bay_of old bay).medium) (λ one. ChangesBay written bay one old new)
  pub here : MatchOption change (Unit {0}) (λ one. one.cylinder ≡ cylinder)
  pub steady : IsSteady bay old new → cylinder ≡ written.key.c
  pub surely : sure → IsFaultless bay old.counters new.counters → cylinder ≡ written.key.c
  pub done : IsOk answer
      → IsReadBack written (bay_of new bay).medium (bay_of old bay).rate cylinder change bay old.counters new.counters
  pub refused : IfErr answer (λ code.
      IsMissCause written (met (bay_of new bay) cylinder written.key.h) change bay old.counters code new.counters)
  pub counts : GoesOn old.counters new.counters
  pub driven : IsDriven 2 old.counters new.counters
  -- if the heads could not be placed, no data command was sent
  pub unsent : answer ≡ Err Seek → IsDriven 0 old.counters new.counters
