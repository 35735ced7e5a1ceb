-- The bytes of a drive that is saved.
use Rattle.std.specs.Prelude.{ℕ, List, ◌∷◌, Option, Some, None}
use Rattle.saved_state.specs.Saved.{spelled_byte, spelled_word, spelled_double, spelled_count, spelled_flag, spelled_bytes, spelled_list}
use Rattle.raw_image.specs.Disk.{Disk}
use Rattle.raw_image.specs.Image.{file_of}
use Rattle.drive_model.specs.declared.fault.Fault.{Fault}
use Rattle.drive_model.specs.declared.fault.Fault.TheVariants.{Dropout, Cut, Lose, Stick}
use Rattle.drive_model.specs.declared.mechanics.Mechanics.{Mechanics}
use Rattle.drive_model.specs.declared.plain.PlainDrive.{PlainDrive}
use Rattle.drive_model.specs.declared.script.ScriptDrive.{ScriptDrive}

-- a medium: a byte 1 and then its image file; a byte 0 where there is none
abbrev pub spelled_medium : Option Disk → List ℕ → List ℕ
spelled_medium None rest = 0 ∷ rest
spelled_medium (Some disk) rest = 1 ∷ spelled_bytes (file_of disk) rest

-- a planned fault: the number of its kind, and then its fields
abbrev pub spelled_fault : Fault → List ℕ → List ℕ
spelled_fault (Dropout c h word count) rest =
    0 ∷ spelled_byte c (spelled_byte h (spelled_word word (spelled_double count rest)))
spelled_fault (Cut c h word count) rest =
    1 ∷ spelled_byte c (spelled_byte h (spelled_word word (spelled_double count rest)))
spelled_fault (Lose c count) rest = 2 ∷ spelled_byte c (spelled_double count rest)
spelled_fault (Stick c count) rest = 3 ∷ spelled_byte c (spelled_double count rest)

-- planned faults
abbrev pub spelled_plan : List Fault → List ℕ → List ℕ
spelled_plan faults rest = spelled_list spelled_fault faults rest

-- the parts that move, and the medium in them
abbrev pub spelled_mechanics : Mechanics → List ℕ → List ℕ
spelled_mechanics m rest =
    spelled_medium m.medium (spelled_byte m.cylinder (spelled_word m.place (spelled_word m.spin
    (spelled_flag m.motor (spelled_flag m.change (spelled_flag m.gate (spelled_flag m.cut (spelled_flag m.replaced rest))))))))

-- a drive without faults, and one with planned faults
abbrev pub spelled_plain_drive : PlainDrive → List ℕ → List ℕ
spelled_plain_drive drive rest = spelled_mechanics drive.mechanics rest

abbrev pub spelled_script_drive : ScriptDrive → List ℕ → List ℕ
spelled_script_drive drive rest =
    spelled_mechanics drive.mechanics (spelled_plan drive.plan (spelled_count drive.faults rest))
