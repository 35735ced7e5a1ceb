-- The commands that make a file of another.
use Rattle.std.specs.Prelude.{◌≡◌, ℕ, List, [], ◌∷◌, ◌++◌, length, codes, Option, Result, Ok, Err}
use Rattle.std.specs.Fmt.{decimal}
use Rattle.archive_commands.specs.Common.{Files, stored, Status, Disk, image_of, file_of, ImageError, ImdImage, imd_of, HasImage, stop_lines, stop_status, Prints}
use Rattle.flop_base.specs.declared.answers.Status.TheVariants as status
use Rattle.imagedisk.specs.Writing.{file_of as imd_file_of}
use Rattle.imagedisk.specs.declared.error.ImdError.TheVariants as imd
use Rattle.imagedisk.specs.Made.{MakesDisk}
use Rattle.imagedisk.specs.Taken.{TakesDisk}
use Rattle.remaster.specs.declared.error.RemasterError.TheVariants as remaster
use Rattle.remaster.specs.Remastered.{Remasters}
use Rattle.track_format.specs.Gaps.{wide_gap}
use Rattle.commands.specs.LastLines.{unfit_text}
use Rattle.archive_commands.specs.declared.halt.Halt.{Halt}
use Rattle.archive_commands.specs.declared.halt.Halt.TheVariants as halt
use Rattle.archive_commands.specs.Files.{Outside, ReadsAs, StopsAt}
use Rattle.archive_commands.specs.Surveys.{IsSectorCount}

-- what becomes of the file `from`. It is stored under `to` as what it becomes, with the number that is printed; or one
-- of its tracks doesn't fit; or the command stops. Only the first of these stores anything
abbrev pub Makes : {T : Type 0} → (List ℕ → Result T ImageError) → (T → List ℕ → ℕ → Type 0) → (T → ℕ → ℕ → Type 0) → List ℕ → List ℕ → Option Files → Result ℕ Halt → Option Files → Type 0
Makes {T} reading Becomes IsUnfit from to told (Ok count) after =
    (source : T) × (file : List ℕ) × ReadsAs reading told from (Ok source) × Becomes source file count × (after ≡ stored told to file)
Makes {T} reading Becomes IsUnfit from to told (Err (halt.Unfit c h)) after =
    ((source : T) × ReadsAs reading told from (Ok source) × IsUnfit source c h) × (after ≡ told)
Makes reading Becomes IsUnfit from to told (Err (halt.Stopped cause)) after = StopsAt reading told from cause × (after ≡ told)

-- the last line where the file was made
unfoldable pub made_text : List ℕ → ℕ → List ℕ
made_text verb count = verb ++ (codes " ok " ++ (decimal count ++ codes "\n"))

-- the last line and the status, by what came of it
abbrev pub outcome_lines : List ℕ → Result ℕ Halt → List (List ℕ)
outcome_lines verb (Ok count) = made_text verb count ∷ []
outcome_lines verb (Err (halt.Unfit c h)) = unfit_text c h ∷ []
outcome_lines verb (Err (halt.Stopped cause)) = stop_lines cause

abbrev pub outcome_status : Result ℕ Halt → Status
outcome_status (Ok count) = status.AllOk
outcome_status (Err (halt.Unfit c h)) = status.SomeRefused
outcome_status (Err (halt.Stopped cause)) = stop_status cause

abbrev pub Tells : List ℕ → Result ℕ Halt → Option (List (List ℕ)) → Option (List (List ℕ)) → Status → Type 0
Tells verb outcome old new ended = Prints (outcome_lines verb outcome) (outcome_status outcome) old new ended

-- ---- fromimd: the disk of an ImageDisk file, which has its sectors; the number of that file's tracks is printed

abbrev pub IsDiskFile : ImdImage → List ℕ → ℕ → Type 0
IsDiskFile image file tracks =
    (disk : Disk) × MakesDisk wide_gap image (Ok disk) × HasImage disk image × (file ≡ file_of disk) × (tracks ≡ length image.tracks)

abbrev pub HasNoDisk : ImdImage → ℕ → ℕ → Type 0
HasNoDisk image c h = MakesDisk wide_gap image (Err (imd.Unfit c h))

abbrev pub MakesFromImd : List ℕ → List ℕ → Option Files → Result ℕ Halt → Option Files → Type 0
MakesFromImd imd name told outcome after = Makes imd_of IsDiskFile HasNoDisk imd name told outcome after

abbrev pub FromImd : List ℕ → List ℕ → Outside → Outside → Status → Type 0
FromImd imd name old new ended =
    (outcome : Result ℕ Halt) × MakesFromImd imd name old.files outcome new.files × Tells (codes "fromimd") outcome old.report new.report ended

-- ---- toimd: the ImageDisk file of a disk, which has the disk's sectors and reads back; the number of its tracks is
-- printed

abbrev pub IsImdFile : Disk → List ℕ → ℕ → Type 0
IsImdFile disk file tracks =
    (image : ImdImage) × TakesDisk disk (Ok image) × HasImage disk image
    × (file ≡ imd_file_of image) × (imd_of file ≡ Ok image) × (tracks ≡ length image.tracks)

abbrev pub HasNoImd : Disk → ℕ → ℕ → Type 0
HasNoImd disk c h = TakesDisk disk (Err (imd.Unfit c h))

abbrev pub MakesToImd : List ℕ → List ℕ → Option Files → Result ℕ Halt → Option Files → Type 0
MakesToImd name imd told outcome after = Makes image_of IsImdFile HasNoImd name imd told outcome after

abbrev pub ToImd : List ℕ → List ℕ → Outside → Outside → Status → Type 0
ToImd name imd old new ended =
    (outcome : Result ℕ Halt) × MakesToImd name imd old.files outcome new.files × Tells (codes "toimd") outcome old.report new.report ended

-- ---- remaster: a disk laid out anew; the number of its sectors is printed

abbrev pub IsRemasterFile : Disk → List ℕ → ℕ → Type 0
IsRemasterFile disk file sectors =
    (after : Disk) × Remasters disk (Ok after) × (file ≡ file_of after) × IsSectorCount disk sectors

abbrev pub HasNoRemaster : Disk → ℕ → ℕ → Type 0
HasNoRemaster disk c h = Remasters disk (Err (remaster.Unfit c h))

abbrev pub MakesRemaster : List ℕ → List ℕ → Option Files → Result ℕ Halt → Option Files → Type 0
MakesRemaster from to told outcome after = Makes image_of IsRemasterFile HasNoRemaster from to told outcome after

abbrev pub Remaster : List ℕ → List ℕ → Outside → Outside → Status → Type 0
Remaster from to old new ended =
    (outcome : Result ℕ Halt) × MakesRemaster from to old.files outcome new.files × Tells (codes "remaster") outcome old.report new.report ended
