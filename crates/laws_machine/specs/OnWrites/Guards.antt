-- What any device step may do to the media.
use Rattle.std.specs.Prelude.{◌≡◌, ◌⊎◌, ◌==◌, ℕ, Bool, true, false, not, Option, Some}
use Rattle.laws_machine.specs.Common.{Disk, with_word, DriveState, Becomes, Writes, dor_of, Moves, let_pass, polled, Fdc, Phase, Execute, Task, Write, Format, Board, controller_of, selected_of}
use Rattle.fdc_core.specs.Formatting.{FormatDoes}
use Rattle.fdc_core.specs.Times.{WordTime, Wrote, Opens, Closes}
use Rattle.fdc_core.specs.Writing.{WriteDoes}
use Rattle.laws_machine.specs.OnQuiet.Quiet.{only_listens}

-- one word of an unprotected medium was replaced
pub record HasOneWord (before after : Option Disk) : Type 0 where
  pub disk : Disk
  pub c : ℕ
  pub h : ℕ
  pub place : ℕ
  pub word : ℕ
  pub was : before ≡ Some disk
  pub unprotected : disk.protected ≡ false
  pub is : after ≡ Some (with_word disk c h place word)

-- a medium stays as it is, except for one word at most
abbrev pub IsGuarded : Option Disk → Option Disk → Type 0
IsGuarded before after = (after ≡ before) ⊎ HasOneWord before after

-- both media stay as they are, except for one word at most each
pub record GuardsMedia (old new : Board) : Type 0 where
  pub first : IsGuarded old.first.medium new.first.medium
  pub second : IsGuarded old.second.medium new.second.medium

-- the same drive is selected, and the medium of each other drive is as it was
pub record LeavesOthers (old new : Board) : Type 0 where
  pub dor : dor_of (controller_of new) ≡ dor_of (controller_of old)
  pub first : (selected_of old == 0) ≡ false → new.first.medium ≡ old.first.medium
  pub second : (selected_of old == 1) ≡ false → new.second.medium ≡ old.second.medium

-- ---- the write gates

-- a WRITE DATA, a WRITE DELETED or a FORMAT TRACK is in execution
abbrev pub is_recording : Phase → Bool
is_recording phase = not (only_listens phase)

-- a word time passes at a drive with its gate closed: after the pulse of a seek if one is due, or while a word is heard
pub record PassesClosed (before after : DriveState) : Type 0 where
  pub passes : ((pulse : Option Bool) × Moves pulse before after) ⊎ Becomes (let_pass before) before after
  pub gate : after.gate ≡ false
  pub medium : after.medium ≡ before.medium

-- this is a word time of the write or format in execution, which leads from controller `old` to controller `new`
abbrev pub MakesTask : Task → ℕ → ℕ → WordTime → Fdc → DriveState → Fdc → Type 0
MakesTask (Write writing) head_drive steps time old before new = WriteDoes time head_drive steps writing old before new
MakesTask (Format formatting) head_drive steps time old before new = FormatDoes time head_drive steps formatting old before new
MakesTask _ head_drive steps time old before new = ⊥

abbrev pub MakesTime : Phase → WordTime → Fdc → DriveState → Fdc → Type 0
MakesTime (Execute execution) time old before new = MakesTask execution.task execution.head_drive execution.steps time old before new
MakesTime _ time old before new = ⊥

-- a drive is given a word in a word time that a command makes; its gate may be opened before the word and closed after
-- it
pub record IsGivenIn (Makes : WordTime → Type 0) (before after : DriveState) : Type 0 where
  pub head : ℕ
  pub opened : Bool
  pub closed : Bool
  pub index : Bool
  pub word : ℕ
  pub makes : Makes (Wrote opened closed index word)
  pub from : DriveState
  pub mid : DriveState
  pub opens : Opens opened before from
  pub writes : Writes head word from mid
  pub closes : Closes closed mid after
  -- a word of the medium is replaced through an open gate alone
  pub gate : (after.medium ≡ before.medium) ⊎ (from.gate ≡ true)

-- the word is the one that the command in execution has to record
abbrev pub IsGivenWord : Fdc → DriveState → DriveState → Type 0
IsGivenWord old before after = (new : Fdc) × IsGivenIn (λ time. MakesTime old.phase time (polled old) before new) before after

-- what a device step is to the drive in a bay: its gate is closed; or it is the selected drive, a command that records
-- is in execution, and the drive is given a word of it
abbrev pub IsGated : Board → ℕ → DriveState → DriveState → Type 0
IsGated old bay before after =
    PassesClosed before after
    ⊎ ((selected_of old ≡ bay) × (is_recording (controller_of old).phase ≡ true) × IsGivenWord (controller_of old) before after)

-- both drives are gated in this way
pub record GatesDrives (old new : Board) : Type 0 where
  pub first : IsGated old 0 old.first new.first
  pub second : IsGated old 1 old.second new.second

-- an open gate is that of the selected drive, while a command records
abbrev pub IsGateOf : Board → ℕ → DriveState → Type 0
IsGateOf board bay drive = drive.gate ≡ true → (selected_of board ≡ bay) × (is_recording (controller_of board).phase ≡ true)

-- this holds for both gates
pub record HoldsGates (board : Board) : Type 0 where
  pub first : IsGateOf board 0 board.first
  pub second : IsGateOf board 1 board.second
