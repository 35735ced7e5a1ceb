-- A data command between two device steps.
use Rattle.std.specs.Prelude.{◌≡◌, ℕ, ◌+◌, ◌==◌, Bool, true, false, List}
use Rattle.laws_machine.specs.Common.{DriveState, Channel, after_write, Fifo, Past, Numbers, MayReadIn, MayReadIdIn, is_executing, dor_of, Fdc, Phase, Board, controller_of, channel_of, memory_of, drive_in, is_controllers, Chips}
use Rattle.fdc_phases.specs.Written.{MayWriteIn, MayFormatIn}
use Rattle.laws_machine.specs.OnReads.Begins.{IsDriveOf}
use Rattle.laws_machine.specs.OnReads.Begins as read_begins
use Rattle.laws_machine.specs.OnReads.Ids.{IsLastOfId}
use Rattle.laws_machine.specs.OnReads.Late.{is_late}
use Rattle.laws_machine.specs.OnReads.Scenes.{Scene, IsScene}
use Rattle.laws_machine.specs.OnReads.Underway.{IsHearing, IsMoved, IsSet}
use Rattle.laws_machine.specs.OnWrites.Begins as write_begins
use Rattle.laws_machine.specs.OnWrites.Drives.{IsAtDrive, IsAtWindow}
use Rattle.laws_machine.specs.OnWrites.Underway.{IsTaken, IsReadSet, refuses}
use Rattle.laws_machine.specs.OnFormats.Begins as format_begins

-- what is written: a window with this mark (WRITE DATA, WRITE DELETED), or a track of these numbers (FORMAT TRACK)
pub data Laid : Type 0 where
  Window : Bool → Laid
  Track : Numbers → Laid

-- READ ID, READ DATA, or a command that writes; the scene has what was sent
pub data Order : Type 0 where
  Identify : Order
  Read : Order
  Write : Laid → Order

-- ---- what is known of a data command

-- what is known of the controller's history, in a phase with DRQ and the FIFO
abbrev pub MayLayIn : Laid → Scene → Past → Phase → Bool → Fifo → Type 0
MayLayIn (Window deleted) scene past phase asking fifo = MayWriteIn past scene.sent deleted phase asking fifo
MayLayIn (Track numbers) scene past phase asking fifo = MayFormatIn past scene.sent.head_drive numbers phase asking fifo

abbrev pub MayIn : Order → Scene → Past → Phase → Bool → Fifo → Type 0
MayIn Identify scene past phase asking fifo = MayReadIdIn past scene.sent.head_drive phase
MayIn Read scene past phase asking fifo = MayReadIn past scene.sent phase asking fifo.bytes
MayIn (Write laid) scene past phase asking fifo = MayLayIn laid scene past phase asking fifo

abbrev pub MayLay : Laid → Scene → Past → Fdc → Type 0
MayLay laid scene past fdc = MayLayIn laid scene past fdc.phase fdc.asking fdc.fifo

abbrev pub May : Order → Scene → Past → Fdc → Type 0
May order scene past fdc = MayIn order scene past fdc.phase fdc.asking fdc.fifo

-- what is known of the controller's lines and results: READ ID moves no byte, and has steps left; DRQ is low outside
-- execution; NW comes of a protected medium alone
abbrev pub Shows : Order → Scene → Fdc → Type 0
Shows Identify scene fdc = (fdc.asking ≡ false) × (is_late fdc.phase ≡ false)
Shows Read scene fdc = fdc.asking ≡ true → is_executing fdc.phase ≡ true
Shows _ scene fdc = refuses fdc.phase ≡ true → scene.disk.protected ≡ true

-- what is known of memory and the channel
abbrev pub Moves : Order → Scene → Past → List ℕ → Channel → Type 0
Moves Identify scene past memory channel = memory ≡ scene.memory
Moves Read scene past memory channel = IsMoved scene past.given past.counted memory channel
Moves _ scene past memory channel = IsTaken scene past.taken past.counted memory channel

-- what is known of the drive
abbrev pub LaysOn : Laid → Scene → Past → Bool → DriveState → Type 0
LaysOn (Window deleted) scene past executes drive = IsAtWindow scene past executes drive
LaysOn (Track numbers) scene past executes drive = IsAtDrive scene past executes drive

abbrev pub AtDrive : Order → Scene → Past → Bool → DriveState → Type 0
AtDrive (Write laid) scene past executes drive = LaysOn laid scene past executes drive
AtDrive _ scene past executes drive = IsHearing scene past executes drive

-- what is known of the chips
pub record IsDoneBy (order : Order) (scene : Scene) (past : Past) (chips : Chips) : Type 0 where
  pub may : May order scene past chips.controller
  pub shows : Shows order scene chips.controller
  pub dor : dor_of chips.controller ≡ scene.dor
  pub rate : chips.controller.rate ≡ scene.rate
  pub moves : Moves order scene past chips.memory chips.channel

-- a command of this order that began in this scene heard, moved and wrote what `past` says; `On` is what is known of
-- the drive
pub record IsDoneOn (On : Past → Bool → DriveState → Type 0) (order : Order) (scene : Scene) (past : Past) (board : Board) : Type 0 where
  pub scene_is : IsScene scene
  pub chips : IsDoneBy order scene past board.bus.chips
  pub drive : On past (is_executing (controller_of board).phase) (drive_in board scene.bay)

abbrev pub IsUnderwayOn : (Past → Bool → DriveState → Type 0) → Order → Scene → Board → Type 0
IsUnderwayOn On order scene board = (past : Past) × IsDoneOn On order scene past board

-- the command is in execution, or gives its results
abbrev pub Underway : Order → Scene → Board → Type 0
Underway order scene board = IsUnderwayOn (AtDrive order scene) order scene board

-- ---- how a data command begins

abbrev pub IsLast : Order → Scene → ℕ → Fdc → Type 0
IsLast Identify scene byte fdc = IsLastOfId byte scene.sent.head_drive fdc
IsLast Read scene byte fdc = read_begins.IsLastByte byte scene.sent fdc
IsLast (Write (Window deleted)) scene byte fdc = write_begins.IsLastByte byte scene.sent deleted fdc
IsLast (Write (Track numbers)) scene byte fdc = format_begins.IsLastByte byte scene.sent.head_drive numbers fdc

-- the channel is set to the scene's range, in the order's direction
abbrev pub IsSetFor : Order → Scene → Channel → Type 0
IsSetFor Identify scene channel = Unit {0}
IsSetFor Read scene channel = (left : ℕ) × (left + 1 ≡ scene.size) × IsSet channel scene.address left
IsSetFor _ scene channel = (left : ℕ) × (left + 1 ≡ scene.size) × IsReadSet channel scene.address left

-- all stands as in the scene, and the last byte of the command is written
pub record CanBeginAt (At : Scene → DriveState → Type 0) (order : Order) (scene : Scene) (byte : ℕ) (board : Board) : Type 0 where
  pub scene_is : IsScene scene
  pub dor : dor_of (controller_of board) ≡ scene.dor
  pub rate : (controller_of board).rate ≡ scene.rate
  pub drive : At scene (drive_in board scene.bay)
  pub memory : memory_of board ≡ scene.memory
  pub channel : IsSetFor order scene (channel_of board)
  pub last : IsLast order scene byte (controller_of board)

abbrev pub CanBegin : Order → Scene → ℕ → Board → Type 0
CanBegin order scene byte board = CanBeginAt IsDriveOf order scene byte board

-- ---- what leaves a data command as it is

-- the same channel, except its flip-flop
abbrev pub IsFlipped : Channel → Channel → Type 0
IsFlipped old new = (high : Bool) × (new ≡ record old { high_byte_next = high })

-- a port whose write changes neither DOR nor the rate, resets nothing, and leaves the channel except its flip-flop
pub record Leaves (port value : ℕ) (board : Board) : Type 0 where
  pub output : (port == 0x3F2) ≡ false
  pub select : (port == 0x3F4) ≡ false
  pub control : (port == 0x3F7) ≡ false
  pub channel : is_controllers port ≡ false → IsFlipped (channel_of board) (after_write port value (channel_of board))
