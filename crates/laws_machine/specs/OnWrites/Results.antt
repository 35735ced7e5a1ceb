-- What the results of a WRITE DATA or WRITE DELETED say of the medium.
use Rattle.std.specs.Prelude.{◌≡◌, ◌⊎◌, ℕ, ◌+◌, ◌≤◌, Bool, true, false, Some, List, length}
use Rattle.laws_machine.specs.Common.{Chrn, Disk, HasTrack, IsWithTrack, track_of, IsAddressAt, HasAddressMark, DriveState, HasNoClear, Ending, Done, NoMark, NoSector, NoField, Overrun, Protected, results_sent, rate_fits, Long, Phase, Result, Change, Written, IsCalm, Board, controller_of, memory_of, drive_in}
use Rattle.track_model.specs.Windows.{IsCuttable, cut_of, window_word, window_words}
use Rattle.track_model.specs.Writing.{window}
use Rattle.laws_machine.specs.OnReads.Scenes.{Scene, head_sent, track_met}
use Rattle.laws_machine.specs.OnWrites.Underway.{range_of}

-- what the write of the scene puts under its key
abbrev pub written_in : Scene → Bool → Written
written_in scene deleted = record { key = scene.sent.key; deleted = deleted; content = range_of scene }

abbrev pub window_in : Scene → Bool → List ℕ
window_in scene deleted = window deleted (range_of scene)

-- behind an address field of the key on the track under the head, the first words of the window stand on the disk.
-- Nothing else on the disk changed, so the address field is still there.
pub record ChangesTo (scene : Scene) (deleted : Bool) (change : Change) (after : Disk) : Type 0 where
  pub cylinder : change.cylinder ≡ scene.cylinder
  pub rate : rate_fits scene.rate scene.disk.rate ≡ true
  pub unprotected : scene.disk.protected ≡ false
  pub track : HasTrack scene.disk scene.cylinder (head_sent scene.sent)
  pub address : IsAddressAt (track_of scene.disk scene.cylinder (head_sent scene.sent)) change.place scene.sent.key
  pub cuttable : IsCuttable (track_of scene.disk scene.cylinder (head_sent scene.sent)) change.place change.words (window_in scene deleted)
  pub cut : IsWithTrack scene.disk scene.cylinder (head_sent scene.sent)
      (cut_of (track_of scene.disk scene.cylinder (head_sent scene.sent)) change.place change.words (window_in scene deleted)) after
  pub stays : IsAddressAt (track_of after scene.cylinder (head_sent scene.sent)) change.place scene.sent.key

-- the whole window stands
abbrev pub IsWholeWindow : Scene → Bool → Change → Type 0
IsWholeWindow scene deleted change = change.words ≡ length (window_in scene deleted)

-- the window at the change's place is inside the track
abbrev pub IsInsideTrack : Scene → Change → Type 0
IsInsideTrack scene change = window_word change.place + window_words scene.sent.key.n ≤ scene.disk.words_per_track

-- the medium was changed in this way
pub record HasChanged (scene : Scene) (deleted : Bool) (drive : DriveState) : Type 0 where
  pub change : Change
  pub after : Disk
  pub medium : drive.medium ≡ Some after
  pub changes : ChangesTo scene deleted change after

-- the medium is as it was
abbrev pub IsUnchanged : Scene → DriveState → Type 0
IsUnchanged scene drive = drive.medium ≡ Some scene.disk

-- some address field of the key has a window that isn't inside the track
abbrev pub HasWindowOut : List ℕ → Chrn → Type 0
HasWindowOut track key = (p : ℕ) × IsAddressAt track p key × (window_word p + window_words key.n ≤ length track → ⊥)

-- the medium was changed, and the whole window stands if the drive had no fault
pub record ChangesWhole (scene : Scene) (deleted : Bool) (drive : DriveState) : Type 0 where
  pub changed : HasChanged scene deleted drive
  pub whole : IsCalm scene.faults drive.faults → IsWholeWindow scene deleted changed.change

-- the medium was changed, and the window at the change's place isn't inside the track
pub record ChangesOut (scene : Scene) (deleted : Bool) (drive : DriveState) : Type 0 where
  pub changed : HasChanged scene deleted drive
  pub out : IsInsideTrack scene changed.change → ⊥

-- the medium is as it was; or it was changed, and the whole window stands if it is inside the track
abbrev pub WritesWell : Scene → Bool → DriveState → Type 0
WritesWell scene deleted drive =
    IsUnchanged scene drive
    ⊎ ((changed : HasChanged scene deleted drive) × (IsInsideTrack scene changed.change → IsWholeWindow scene deleted changed.change))

-- what an ending says of the medium, and of the track as it was: IC 00, that the whole window stands if the drive had
-- no fault; MA and ND, that nothing was written. MA with MD says that a window isn't inside the track, and NW that the
-- medium is protected. EN, the last step and DE don't come.
abbrev pub WriteEndsAs : Scene → Bool → DriveState → Ending → Type 0
WriteEndsAs scene deleted drive (Done marked) = ChangesWhole scene deleted drive
WriteEndsAs scene deleted drive NoMark = IsUnchanged scene drive × (IsCalm scene.faults drive.faults → HasAddressMark (track_met scene) → ⊥)
WriteEndsAs scene deleted drive NoSector =
    IsUnchanged scene drive × HasAddressMark (track_met scene)
    × (IsCalm scene.faults drive.faults → HasNoClear (Some scene.sent.key) (track_met scene))
WriteEndsAs scene deleted drive NoField =
    (IsUnchanged scene drive ⊎ ChangesOut scene deleted drive) × HasWindowOut (track_met scene) scene.sent.key
WriteEndsAs scene deleted drive Overrun = IsUnchanged scene drive ⊎ HasChanged scene deleted drive
WriteEndsAs scene deleted drive Protected = IsUnchanged scene drive × (scene.disk.protected ≡ true)
WriteEndsAs scene deleted drive _ = ⊥

-- the result bytes are those of an ending, and what that ending says is true
abbrev pub WriteEndedIn : Scene → Bool → DriveState → Phase → Type 0
WriteEndedIn scene deleted drive (Result (Long ending results _)) = (results ≡ results_sent ending scene.sent) × WriteEndsAs scene deleted drive ending
WriteEndedIn scene deleted drive _ = Unit {0}

abbrev pub WriteEnded : Scene → Bool → Board → Type 0
WriteEnded scene deleted board = WriteEndedIn scene deleted (drive_in board scene.bay) (controller_of board).phase

-- at any time memory is as it was, and the medium is as it was, or was changed in this way
pub record WritesOnly (scene : Scene) (deleted : Bool) (board : Board) : Type 0 where
  pub memory : memory_of board ≡ scene.memory
  pub medium : IsUnchanged scene (drive_in board scene.bay) ⊎ HasChanged scene deleted (drive_in board scene.bay)
