-- Commands that read.
use Rattle.std.specs.Prelude.{◌≡◌, ℕ, Bool, List, Some, length, Result, IfOk, IfErr, ◌⊎◌}
use Rattle.floppy_driver.specs.Common.{RoseBy, Chrn, Rate, Code, NoMark, NotFound, Overrun, BadCrc, Disk, HasTrack, track_of, IsAddressAt, IsDataMark, IsWhole, content_size, HasAddressMark, IsSector, IsLone, in_bay, Counters, IsFaultless, IsUndisturbed, GoesOn, IsDriven, SameOutside, HasNoClearMark, HasClearAddress, HasLook}
use Rattle.track_model.specs.declared.Look.TheVariants as look
use Rattle.flop_base.specs.Lists.{with_items}
use Rattle.floppy_driver.specs.Rigs.{Rig, track_under, HeadsStay}

-- what the track has to be for a read to be refused with this code
abbrev pub IsReadReason : List ℕ → Chrn → Code → Type 0
IsReadReason track key NoMark = HasNoClearMark track ⊎ HasLook track key look.NoData
IsReadReason track key NotFound = HasAddressMark track × (HasClearAddress track key → ⊥)
IsReadReason track key BadCrc = HasLook track key look.BadCrc
IsReadReason track key _ = ⊥

-- the refusals of a read
abbrev pub IsReadCode : Code → Type 0
IsReadCode NoMark = Unit {0}
IsReadCode NotFound = Unit {0}
IsReadCode BadCrc = Unit {0}
IsReadCode Overrun = Unit {0}
IsReadCode _ = ⊥

-- a read of the key from this track was refused. If the drive had no fault, the track is the cause of each code but
-- `Overrun`, whatever stalls were counted
pub record IsReadMiss (track : List ℕ) (key : Chrn) (bay : ℕ) (old : Counters) (code : Code) (new : Counters) : Type 0 where
  pub coded : IsReadCode code
  pub reason : IsUndisturbed bay old new → IsReadReason track key code
  pub cause : IsFaultless bay old new → IsReadReason track key code ⊎ (code ≡ Overrun)
  pub overrun : code ≡ Overrun → RoseBy 1 old.stalls new.stalls

-- a field of the key with this mark and content was found on the track under the head
pub record FindsField (bay : ℕ) (key : Chrn) (rate : Rate) (old : Rig) (deleted : Bool) (content : List ℕ) (new : Rig) : Type 0 where
  pub disk : Disk
  pub place : ℕ
  pub mark : ℕ
  pub medium : in_bay old.media bay ≡ Some disk
  pub same_rate : disk.rate ≡ rate
  pub track : HasTrack disk (in_bay old.cylinders bay) key.h
  pub address_field : IsAddressAt (track_of disk (in_bay old.cylinders bay) key.h) place key
  pub data_mark : IsDataMark (track_of disk (in_bay old.cylinders bay) key.h) place mark deleted
  pub whole : IsWhole (track_of disk (in_bay old.cylinders bay) key.h) mark key.n content
  pub size : length content ≡ content_size key.n
  pub sector : (IsFaultless bay old.counters new.counters ⊎ IsLone (track_of disk (in_bay old.cylinders bay) key.h) place)
      → IsSector (track_of disk (in_bay old.cylinders bay) key.h) key deleted content

-- one data command that changed neither a medium nor the place of any heads
pub record SendsRead (old new : Rig) : Type 0 where
  pub heads : HeadsStay old new
  pub media : new.media ≡ old.media
  pub counts : GoesOn old.counters new.counters
  pub driven : IsDriven 1 old.counters new.counters
  pub command : RoseBy 1 old.counters.data_commands new.counters.data_commands

-- READ DATA to user memory
pub record ReadsData (bay : ℕ) (key : Chrn) (rate : Rate) (address : ℕ) (old : Rig) (answer : Result Bool Code) (new : Rig) : Type 0 where
  pub sends : SendsRead old new
  pub found : IfOk answer (λ deleted. (content : List ℕ) × FindsField bay key rate old deleted content new
      × (new.memory ≡ with_items old.memory address content))
  pub refused : IfErr answer (λ code. IsReadMiss (track_under old bay rate key.h) key bay old.counters code new.counters)
  pub outside : SameOutside address (content_size key.n) old.memory new.memory
  pub page : new.page ≡ old.page

-- READ DATA to the driver's page
pub record ReadsBack (bay : ℕ) (key : Chrn) (rate : Rate) (old : Rig) (answer : Result Bool Code) (new : Rig) : Type 0 where
  pub sends : SendsRead old new
  pub found : IfOk answer (λ deleted. (content : List ℕ) × FindsField bay key rate old deleted content new
      × (new.page ≡ with_items old.page 0 content))
  pub refused : IfErr answer (λ code. IsReadMiss (track_under old bay rate key.h) key bay old.counters code new.counters)
  pub memory : new.memory ≡ old.memory

-- READ ID: the key of some address field of the track under the head
pub record ReadsId (bay head : ℕ) (rate : Rate) (old : Rig) (answer : Result Chrn Code) (new : Rig) : Type 0 where
  pub sends : SendsRead old new
  pub found : IfOk answer (λ key. (p : ℕ) × IsAddressAt (track_under old bay rate head) p key)
  pub refused : IfErr answer (λ code. IsFaultless bay old.counters new.counters
      → (key : Chrn) → HasClearAddress (track_under old bay rate head) key → ⊥)
  pub memory : new.memory ≡ old.memory
  pub page : new.page ≡ old.page
