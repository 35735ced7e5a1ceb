-- What the results of a FORMAT TRACK say of the medium.
use Rattle.std.specs.Prelude.{◌≡◌, ◌⊎◌, ℕ, ◌≤◌, true, false, Some, List, length, take}
use Rattle.std.specs.List.{flat_map}
use Rattle.laws_machine.specs.Common.{Chrn, Disk, IsWithTrack, track_of, Laying, DriveState, Ending, Done, NoMark, NoField, Overrun, Protected, Numbers, results_of, rate_fits, Long, Phase, Result, IsCalm, Board, controller_of, memory_of, drive_in}
use Rattle.track_model.specs.Layouts.{Fits, lay}
use Rattle.flop_base.specs.Lists.{with_items}
use Rattle.track_format.specs.Keys.{key_bytes}
use Rattle.laws_machine.specs.OnReads.Scenes.{Scene, head_sent}
use Rattle.laws_machine.specs.OnWrites.Results.{IsUnchanged}
use Rattle.laws_machine.specs.OnWrites.Underway.{range_of}
use Rattle.laws_machine.specs.OnWrites.Drives.{IsThere}

-- the range has the bytes of these keys, one for each sector
pub record AreKeysOf (scene : Scene) (numbers : Numbers) (keys : List Chrn) : Type 0 where
  pub many : length keys ≡ numbers.sectors
  pub bytes : flat_map key_bytes keys ≡ range_of scene

-- the layout of the keys on a track of the disk
abbrev pub layout_in : Scene → Numbers → List Chrn → List ℕ
layout_in scene numbers keys = lay keys numbers.n numbers.gap3 numbers.fill scene.disk.words_per_track

-- the first words of the layout stand on the track under the head, and nothing else on the disk changed
pub record LaysTo (scene : Scene) (numbers : Numbers) (keys : List Chrn) (laying : Laying) (after : Disk) : Type 0 where
  pub cylinder : laying.cylinder ≡ scene.cylinder
  pub rate : rate_fits scene.rate scene.disk.rate ≡ true
  pub unprotected : scene.disk.protected ≡ false
  pub track : IsThere scene
  pub most : laying.words ≤ scene.disk.words_per_track
  pub laid : IsWithTrack scene.disk scene.cylinder (head_sent scene.sent)
      (with_items (track_of scene.disk scene.cylinder (head_sent scene.sent)) 0 (take laying.words (layout_in scene numbers keys))) after

-- the medium was laid out in this way
pub record HasLaying (scene : Scene) (numbers : Numbers) (keys : List Chrn) (drive : DriveState) : Type 0 where
  pub laying : Laying
  pub after : Disk
  pub medium : drive.medium ≡ Some after
  pub lays : LaysTo scene numbers keys laying after

-- the medium is as it was, or was laid out
abbrev pub IsSameOrLaid : Scene → Numbers → List Chrn → DriveState → Type 0
IsSameOrLaid scene numbers keys drive = IsUnchanged scene drive ⊎ HasLaying scene numbers keys drive

-- all words of the track are laid out if the drive had no fault
pub record LaysWhole (scene : Scene) (numbers : Numbers) (keys : List Chrn) (drive : DriveState) : Type 0 where
  pub has : HasLaying scene numbers keys drive
  pub whole : IsCalm scene.faults drive.faults → has.laying.words ≡ scene.disk.words_per_track

-- the revolution went by: the track under the head is laid out, or there is no such track, and the medium is as it was
pub record LaysTurn (scene : Scene) (numbers : Numbers) (keys : List Chrn) (drive : DriveState) : Type 0 where
  pub rate : rate_fits scene.rate scene.disk.rate ≡ true
  pub there : IsThere scene → LaysWhole scene numbers keys drive
  pub absent : (IsThere scene → ⊥) → IsUnchanged scene drive

-- the layout is no longer than a track
abbrev pub FitsOn : Scene → Numbers → List Chrn → Type 0
FitsOn scene numbers keys = Fits keys numbers.n numbers.gap3 scene.disk.words_per_track

-- what an ending says: IC 00, that the revolution was laid out and the layout fits; MA with MD, that it was laid out
-- and the layout doesn't fit. MA alone says that the medium has another rate, and NW that it is protected. EN, ND, DE
-- and the last step don't come.
abbrev pub FormatEndsAs : Scene → Numbers → List Chrn → DriveState → Ending → Type 0
FormatEndsAs scene numbers keys drive (Done marked) = LaysTurn scene numbers keys drive × FitsOn scene numbers keys
FormatEndsAs scene numbers keys drive NoField = LaysTurn scene numbers keys drive × (FitsOn scene numbers keys → ⊥)
FormatEndsAs scene numbers keys drive NoMark = IsUnchanged scene drive × (rate_fits scene.rate scene.disk.rate ≡ false)
FormatEndsAs scene numbers keys drive Overrun = IsSameOrLaid scene numbers keys drive
FormatEndsAs scene numbers keys drive Protected = IsUnchanged scene drive × (scene.disk.protected ≡ true)
FormatEndsAs scene numbers keys drive _ = ⊥

-- the result bytes are those of an ending, and what that ending says is true
abbrev pub FormatEndedIn : Scene → Numbers → List Chrn → DriveState → Phase → Type 0
FormatEndedIn scene numbers keys drive (Result (Long ending results _)) =
    (results ≡ results_of ending scene.sent.head_drive results.key) × FormatEndsAs scene numbers keys drive ending
FormatEndedIn scene numbers keys drive _ = Unit {0}

abbrev pub FormatEnded : Scene → Numbers → List Chrn → Board → Type 0
FormatEnded scene numbers keys board = FormatEndedIn scene numbers keys (drive_in board scene.bay) (controller_of board).phase

-- at any time memory is as it was, and the medium is as it was or was laid out
pub record FormatsOnly (scene : Scene) (numbers : Numbers) (keys : List Chrn) (board : Board) : Type 0 where
  pub memory : memory_of board ≡ scene.memory
  pub medium : IsSameOrLaid scene numbers keys (drive_in board scene.bay)
