-- The drive of a command that writes, between two device steps.
use Rattle.std.specs.Prelude.{ℕ, Bool}
use Rattle.laws_machine.specs.Common.{DriveState, Past}
use Rattle.fdc_core.specs.Drives.Writing.{IsAtDrive as IsAtDriveSince, IsAtWindow as IsAtWindowSince, IsThere as IsThereSince, start_in as start_since}
use Rattle.laws_machine.specs.OnReads.Scenes.{Scene, outset_of}

-- The scene of a FORMAT is that of a command that sends a sector. Of what was sent, only the head and the drive count.

-- where the words written begin on the track: behind those that were heard
abbrev pub start_in : Scene → Past → ℕ
start_in scene past = start_since (outset_of scene) past

-- the disk has the track under the head
abbrev pub IsThere : Scene → Type 0
IsThere scene = IsThereSince (outset_of scene)

-- what is known of the drive and its medium
abbrev pub IsAtDrive : Scene → Past → Bool → DriveState → Type 0
IsAtDrive scene = IsAtDriveSince (outset_of scene)

-- what is known of the drive for a window: words are written only on a track that is there, and the gate could be
-- opened
abbrev pub IsAtWindow : Scene → Past → Bool → DriveState → Type 0
IsAtWindow scene = IsAtWindowSince (outset_of scene)
