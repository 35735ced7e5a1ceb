-- How a READ DATA begins.
use Rattle.std.specs.Prelude.{◌≡◌, ℕ, ◌%◌, ◌<◌, ◌≤◌, true, false, Some, [], ◌∷◌, ◌++◌}
use Rattle.laws_machine.specs.Common.{Disk, IsDisk, DriveState, answer, Ready, ReadData, seek_bits, Sent, is_taking, dor_of, is_held, Fdc, Command, Board, controller_of, memory_of, drive_in}
use Rattle.laws_machine.specs.OnQuiet.Settings.{Setting}
use Rattle.laws_machine.specs.OnReads.Scenes.{Scene}
use Rattle.laws_machine.specs.OnReads.Underway.{IsSet}

-- the drive is at speed over the scene's track
pub record IsDriveOf (scene : Scene) (drive : DriveState) : Type 0 where
  pub medium : drive.medium ≡ Some scene.disk
  pub cylinder : drive.cylinder ≡ scene.cylinder
  pub motor : drive.motor ≡ true
  pub speed : 6250 ≤ drive.spin
  pub place : drive.place ≡ scene.from
  pub inside : scene.from < scene.disk.words_per_track
  pub faults : drive.faults ≡ scene.faults

-- with this byte the command is whole, and nothing stands in its way
pub record IsLastByte (byte : ℕ) (sent : Sent) (controller : Fdc) : Type 0 where
  pub gap : ℕ
  pub length_code : ℕ
  pub whole : answer (controller.command ++ byte ∷ []) ≡ Ready (ReadData sent.head_drive sent.key sent.last_sector gap length_code)
  pub taking : is_taking controller ≡ true
  pub dma : controller.non_dma ≡ false
  pub no_seek : seek_bits controller.seeks ≡ 0

-- ---- from port accesses

-- the scene of a READ DATA that begins on this board
abbrev pub scene_of : Sent → ℕ → Disk → ℕ → ℕ → Board → Scene
scene_of sent bay disk address size board = record {
  sent = sent;
  dor = dor_of (controller_of board);
  rate = (controller_of board).rate;
  bay = bay;
  disk = disk;
  cylinder = (drive_in board bay).cylinder;
  from = (drive_in board bay).place;
  faults = (drive_in board bay).faults;
  memory = memory_of board;
  address = address;
  size = size;
}

-- the drive in a bay is selected, with this medium at speed, and the controller moves bytes by DMA
pub record IsReadyIn (bay : ℕ) (disk : Disk) (start : Board) : Type 0 where
  pub bay_is : bay ≤ 1
  pub selects : dor_of (controller_of start) % 4 ≡ bay
  pub free : is_held (controller_of start) ≡ false
  pub dma : (controller_of start).non_dma ≡ false
  pub disk_is : IsDisk disk
  pub medium : (drive_in start bay).medium ≡ Some disk
  pub motor : (drive_in start bay).motor ≡ true
  pub speed : 6250 ≤ (drive_in start bay).spin
  pub inside : (drive_in start bay).place < disk.words_per_track

-- the accesses since have set the channel to a range, and sent all bytes of a READ DATA but this one
pub record IsSetFor (sent : Sent) (address left byte : ℕ) (set : Setting) : Type 0 where
  pub takes : set.phase ≡ Command
  pub gap : ℕ
  pub length_code : ℕ
  pub whole : answer (set.command ++ byte ∷ []) ≡ Ready (ReadData sent.head_drive sent.key sent.last_sector gap length_code)
  pub channel : IsSet set.channel address left
