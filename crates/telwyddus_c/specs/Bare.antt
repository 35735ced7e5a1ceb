-- Saved states of a controller without its media.
use Rattle.std.specs.Prelude.{◌≡◌, ◌⊎◌, ◌==◌, ◌&&◌, ℕ, Bool, true, false, List, [], ◌∷◌, Option, Some, None, MatchBool}
use Rattle.telwyddus_c.specs.Common.{bay_state, spelled_bay, BayWithMedium, ControllerValue, chip_with_drive, spelled_chip, Rate, R500, R250, Disk, blank_disk}
use Rattle.c_bay_drive.specs.Joined.{with_writes}
use Rattle.telwyddus_c.specs.Buffers.{WritesBytes}
use Rattle.telwyddus_c.specs.Drives.{held}
use Rattle.telwyddus_c.specs.States.{behind, ControllerFits, HasBytes, HasNone}

-- what such a state begins with: the name TELWYDB, and the number of the form of what comes after it, 4
abbrev pub bare_name : List ℕ
bare_name = 0x54 ∷ 0x45 ∷ 0x4C ∷ 0x57 ∷ 0x59 ∷ 0x44 ∷ 0x42 ∷ 0x04 ∷ []

-- the bytes of a controller that follow that name
abbrev pub spelled_bare : ControllerValue → List ℕ → List ℕ
spelled_bare = behind bare_name (spelled_chip spelled_bay)

-- the medium in a bay
abbrev pub medium_in : ControllerValue → ℕ → Option Disk
medium_in controller bay = (bay_state (held controller bay)).medium

-- what stands in for a medium: one track of its length at its rate, on which nothing is recorded
abbrev pub stand_in : Disk → Disk
stand_in disk = blank_disk 1 1 disk.words_per_track disk.rate

abbrev pub stand_in_for : Option Disk → Option Disk
stand_in_for None = None
stand_in_for (Some disk) = Some (stand_in disk)

-- both rates are the same
abbrev pub same_rate : Rate → Rate → Bool
same_rate R500 R500 = true
same_rate R250 R250 = true
same_rate _ _ = false

-- either both media are missing, or their tracks have the same length and rate
abbrev pub alike : Option Disk → Option Disk → Bool
alike None None = true
alike (Some one) (Some other) = other.words_per_track == one.words_per_track && same_rate one.rate other.rate
alike _ _ = false

-- the media are alike in both bays
abbrev pub media_alike : ControllerValue → ControllerValue → Bool
media_alike one other = alike (medium_in one 0) (medium_in other 0) && alike (medium_in one 1) (medium_in other 1)

-- a bay has this medium in, and all else is as it was
pub record HasMedium (medium : Option Disk) (bay : ℕ) (old new : ControllerValue) : Type 0 where
  pub drive : BayWithMedium medium (held old bay) (held new bay)
  pub whole : new ≡ chip_with_drive bay (held new bay) old

-- both bays have these media in, and all else is as it was
pub record HasMedia (first second : Option Disk) (old new : ControllerValue) : Type 0 where
  pub first_drive : BayWithMedium first (held old 0) (held new 0)
  pub second_drive : BayWithMedium second (held old 1) (held new 1)
  pub whole : new ≡ chip_with_drive 1 (held new 1) (chip_with_drive 0 (held new 0) old)

-- the controller without its media, where each medium has its stand-in
abbrev pub IsBared : ControllerValue → ControllerValue → Type 0
IsBared old bare = HasMedia (stand_in_for (medium_in old 0)) (stand_in_for (medium_in old 1)) old bare

-- the drive of a bay also reports the writes that another controller's drive there reports
abbrev pub with_writes_at : (bay : ℕ) → (from state : ControllerValue) → ControllerValue
with_writes_at bay from state = chip_with_drive bay (with_writes (held from bay) (held state bay)) state

-- the drives of both bays also report the writes of the other controller's drives
abbrev pub with_writes_of : (from state : ControllerValue) → ControllerValue
with_writes_of from state = with_writes_at 1 from (with_writes_at 0 from state)

-- what was saved, with the media that are in the bays of this controller, and with their tabs. That a word of these
-- media was replaced, and which tracks were written, is reported if the controller reports it, or the saved state does
abbrev pub IsRefilled : (media state new : ControllerValue) → Type 0
IsRefilled media state new = HasMedia (medium_in media 0) (medium_in media 1) (with_writes_of media state) new

-- the bytes of a controller that lacks its media in this way
pub record BareBytes (Lacks : ControllerValue → Type 0) (bytes : List ℕ) : Type 0 where
  pub bare : ControllerValue
  pub lacks : Lacks bare
  pub fits : ControllerFits bare
  pub spells : bytes ≡ spelled_bare bare []

-- the bytes of the bared controller are written to a buffer. By the code of the call:
-- - 0: the bytes are written, and their number is reported;
-- - 10: the buffer is too short. It stays as it is, and the number is reported;
-- - 3: memory is out. The buffer and what was reported stay.
abbrev pub WritesBare : ControllerValue → (code : ℕ) → (old new : List ℕ) → (was told : ℕ) → Type 0
WritesBare controller code old new was told =
    ((bytes : List ℕ) × BareBytes (IsBared controller) bytes × WritesBytes bytes code old new told)
    ⊎ ((code ≡ 3) × (new ≡ old) × (told ≡ was))

-- a controller's state is restored without its media. By the code of the call:
-- - 0: the controller is the one whose state the bytes are, except for its media. These stay, with what is reported of
--   writes to them;
-- - 21: the state is of other media;
-- - 22: no state has these bytes;
-- - 3: memory is out.
-- after every code but 0 the controller stays as it was
abbrev pub RestoresBare : List ℕ → (code : ℕ) → ControllerValue → ControllerValue → Type 0
RestoresBare bytes code old new =
    MatchBool (code == 0) ((state : ControllerValue) × HasBytes ControllerFits spelled_bare bytes state × (media_alike old state ≡ true) × IsRefilled old state new)
    (MatchBool (code == 21) ((state : ControllerValue) × HasBytes ControllerFits spelled_bare bytes state × (media_alike old state ≡ false) × (new ≡ old))
    (MatchBool (code == 22) (HasNone ControllerFits spelled_bare bytes × (new ≡ old))
    (MatchBool (code == 3) (new ≡ old) ⊥)))
