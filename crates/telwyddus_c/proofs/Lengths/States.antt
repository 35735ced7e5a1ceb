-- How many bytes the state of a controller has.
use Rattle.std.proofs.Common.{◌≡◌, ◌==◌, ◌+◌, ◌*◌, ◌≤◌, ◌∷◌, ℕ, Bool, true, false, List, [], Option, None, Some, length, take, drop, refl, arith, length-drop, ne_eqb}
use Rattle.std.specs.Prelude.{MatchBool}
use Rattle.telwyddus_c.proofs.Common.{ForSome, length-take, faults_in_bay, BayDrive, Pulled, ControllerValue, script_of, Fault, Disk, IsDisk, ControllerFits, WritesState, spelled_controller}
use Rattle.std.proofs.lemmas.Nat.{mul-le}
use Rattle.c_bay_drive.specs.Saving.{BayFits, spelled_bay, spelled_cable}
use Rattle.drive_model.specs.Saving.{spelled_fault, spelled_medium, spelled_script_drive}
use Rattle.drive_model.specs.declared.fault.Fault.TheVariants.{Lose, Stick}
use Rattle.drive_model.specs.declared.script.ScriptDrive.{ScriptDrive}
use Rattle.raw_image.specs.Image.{file_of}
use Rattle.raw_image.specs.Words.{bytes_of}
use Rattle.raw_image.proofs.Pairs.{length-bytes_of}
use Rattle.saved_state.specs.Saved.{spelled_list}
use Rattle.telwyddus_c.specs.Lengths.{TellsAtMost, faults_planned, medium_most, state_most}
use Rattle.telwyddus_c.proofs.Lengths.Bytes.{HasMost, length-byte, length-bytes, length-count, length-double, length-flag, length-word}
use Rattle.telwyddus_c.proofs.Lengths.Chips.{most-chip}

-- ---- a medium

length-file : (disk : Disk) → length (file_of disk) ≡ 14 + 2 * length disk.words
length-file disk =
    let front : length (take 14 (file_of disk)) ≡ 14 = refl in
    let back : length (drop 14 (file_of disk)) ≡ length (bytes_of disk.words) = refl in
    omega (arith, front, back, length-take 14 (file_of disk), length-drop 14 (file_of disk), length-bytes_of disk.words)

most-file : (disk : Disk) → IsDisk disk → length (file_of disk) ≤ medium_most
most-file disk is =
    let tracks = mul-le disk.cylinders disk.heads 80 2 is.cylinders.1 is.heads.1 in
    let words = mul-le (disk.cylinders * disk.heads) disk.words_per_track 160 16384 (omega (arith, tracks)) is.words_per_track.1 in
    omega (arith, length-file disk, is.count, words)

most-medium : (medium : Option Disk) (rest : List ℕ) → ForSome medium IsDisk → length (spelled_medium medium rest) ≤ 9 + medium_most + length rest
most-medium None rest is = omega arith
most-medium (Some disk) rest is = omega (arith, length-bytes (file_of disk) rest, most-file disk (is disk refl))

-- ---- planned faults

most-fault : HasMost spelled_fault 9
most-fault (Lose c count) rest = omega (arith, length-byte, length-double)
most-fault (Stick c count) rest = omega (arith, length-byte, length-double)
most-fault _ rest = omega (arith, length-byte, length-word, length-double)

most-faults : (faults : List Fault) (rest : List ℕ) → length (spelled_list spelled_fault faults rest) ≤ 1 + 10 * length faults + length rest
unfolding spelled_list
most-faults [] rest = omega arith
most-faults (fault ∷ faults) rest = omega (arith, most-fault fault (spelled_list spelled_fault faults rest), most-faults faults rest)

-- ---- the drive of a bay

most-script : (drive : ScriptDrive) (rest : List ℕ)
    → length (spelled_script_drive drive rest) ≤ 28 + medium_most + 10 * length (script_of drive) + length rest
most-script drive rest =
    let disk : ForSome drive.mechanics.medium IsDisk = drive.mechanics.a_disk in
    omega (
      arith,
      most-medium,
      length-byte,
      length-word,
      length-flag,
      most-faults,
      length-count,
    )

most-cable : (pulled : Option Pulled) (rest : List ℕ) → length (spelled_cable pulled rest) ≤ 9 + length rest
most-cable None rest = omega arith
most-cable (Some pulled) rest = omega (arith, length-flag, length-count)

most-bay : (drive : BayDrive) (rest : List ℕ) → BayFits drive
    → length (spelled_bay drive rest) ≤ 67 + medium_most + 10 * length (faults_in_bay drive) + length rest
most-bay drive rest fits = omega (arith, length-flag, most-script, length-bytes, fits, most-cable drive.pulled rest)

-- ---- the controller

most-controller : (controller : ControllerValue) → ControllerFits controller
    → length (spelled_controller controller []) ≤ state_most (faults_planned controller)
most-controller controller fits =
    let adapter = controller.behind.adapter in
    let first = 67 + medium_most + 10 * length (faults_in_bay adapter.first) in
    let second = 67 + medium_most + 10 * length (faults_in_bay adapter.second) in
    omega (
      arith,
      most-chip spelled_bay BayFits controller first second [] fits (λ left. most-bay adapter.first left fits.0.1) (λ left. most-bay adapter.second left fits.0.2),
    )

told_by : (done short : Bool) (X Y other : Type 0) (told most : ℕ) → MatchBool done X (MatchBool short Y other)
    → (X → told ≤ most) → (Y → told ≤ most) → (other → ⊥) → told ≤ most
told_by true short X Y other told most is one two none = one is
told_by false true X Y other told most is one two none = two is
told_by false false X Y other told most is one two none = absurd (none is)

not_out : (out : Bool) (X : Type 0) → out ≡ false → MatchBool out X ⊥ → ⊥
not_out true X e is = absurd cc
not_out false X e is = is

-- the length that is reported of a state is no more than that either
pub tells_at_most : (controller : ControllerValue) (code : ℕ) (old new : List ℕ) (was told : ℕ)
    → WritesState ControllerFits spelled_controller controller code old new was told → TellsAtMost (Some controller) code told
tells_at_most controller code old new was told writes memory =
    let most = most-controller controller writes.fits_here in
    told_by (code == 0) (code == 10) _ _ _ told (state_most (faults_planned controller)) writes.writes
    (λ is. omega (arith, is.0, most)) (λ is. omega (arith, is.0, most)) (not_out (code == 3) _ (ne_eqb code 3 memory))
