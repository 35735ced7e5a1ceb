-- The drive that is selected, and its lines.
use Rattle.std.specs.Prelude.{ℕ, ◌%◌, ◌==◌, false, if◌then◌else◌}
use Rattle.fdc_core.specs.Common.{DriveState, is_protected}
use Rattle.fdc_core.specs.State.{dor_of}
use Rattle.fdc_core.specs.declared.controller.Fdc.{Fdc}
use Rattle.fdc_core.specs.declared.controller.Lines.{Lines}

-- the drive that DOR selects. The drives of bays 2 and 3 are absent
abbrev pub selected_by : Fdc → ℕ
selected_by controller = dor_of controller % 4

-- the lines of a drive
abbrev pub lines_of_drive : DriveState → Lines
lines_of_drive drive =
    record { track0 = drive.cylinder == 0; protected = is_protected drive.medium; changed = drive.change }

-- the lines of an absent drive are all low
abbrev pub absent_lines : Lines
absent_lines = record { track0 = false; protected = false; changed = false }

-- the lines of the drive with this number
abbrev pub lines_of_selected : ℕ → DriveState → DriveState → Lines
lines_of_selected selected first second =
    if selected == 0 then lines_of_drive first else (
    if selected == 1 then lines_of_drive second else
    absent_lines)
