-- What is read is what was saved of a drive.
use Rattle.std.proofs.Common.{◌≡◌, ℕ, ◌≤◌, ◌-◌, Bool, false, List, [], ◌∷◌, Option, Some, None, Result, Ok, Err, refl, subst, arith}
use Rattle.std.specs.Prelude.{⊤, IfOk}
use Rattle.std.specs.Coded.{le_prop}
use Rattle.std.specs.Option.{ForSome}
use Rattle.std.proofs.Props.{props}
use Rattle.flop_base.specs.Counts.{last_count}
use Rattle.flop_base.specs.declared.answers.NoMemory.{NoMemory}
use Rattle.saved_state.specs.Saved.{Gives, EachFits, spelled_bytes}
use Rattle.raw_image.specs.Disk.{Disk, IsDisk}
use Rattle.raw_image.specs.Image.{file_of}
use Rattle.drive_model.specs.Drive.{track_words}
use Rattle.drive_model.specs.Saving.{spelled_medium}
use Rattle.drive_model.specs.declared.fault.Fault.{Fault}
use Rattle.drive_model.specs.declared.mechanics.Mechanics.{Mechanics}
use Rattle.drive_model.specs.declared.script.ScriptDrive.{ScriptDrive}

-- ---- the medium

-- the byte that comes next
abbrev pub Next : List ℕ → ℕ → List ℕ → Type 0
Next here byte after = (b : ℕ) (r : List ℕ) → here ≡ b ∷ r → (byte ≡ b) × (after ≡ r)

-- an image file follows a byte 1
medium_read : (medium value : Option Disk) (old behind new rest bytes : List ℕ) (byte : ℕ)
    → Next old byte behind → byte ≡ 1 → Gives (λ _. ⊤) spelled_bytes behind bytes new
    → ((disk : Disk) → IsDisk disk → bytes ≡ file_of disk → medium ≡ Some disk)
    → ForSome value IsDisk → old ≡ spelled_medium value rest → (medium ≡ value) × (new ≡ rest)
medium_read medium None old behind new rest bytes byte next is gives only fits left = absurd (omega (arith, is, (next 0 rest left).0))
medium_read medium (Some disk) old behind new rest bytes byte next is gives only fits left =
    let it = gives (file_of disk) rest tt (next 1 _ left).1 in
    (only disk (fits disk refl) it.0, it.1)

pub gives_medium : (result : Result (Option Disk) NoMemory) (old behind new bytes : List ℕ) (byte : ℕ)
    → Next old byte behind → byte ≡ 1 → Gives (λ _. ⊤) spelled_bytes behind bytes new
    → IfOk result (λ medium. (disk : Disk) → IsDisk disk → bytes ≡ file_of disk → medium ≡ Some disk)
    → IfOk result (λ medium. Gives (λ it. ForSome it IsDisk) spelled_medium old medium new)
gives_medium (Ok medium) old behind new bytes byte next is gives only =
    λ value rest fits left. medium_read medium value old behind new rest bytes byte next is gives only fits left
gives_medium (Err e) old behind new bytes byte next is gives only = tt

-- two proofs that a disk is one are the same
pub IsDisk-prop : (disk : Disk) → IsProp (IsDisk disk)
IsDisk-prop disk = hlevel props

pub disk_prop : (medium : Option Disk) → IsProp (ForSome medium IsDisk)
disk_prop medium = hlevel (props, IsDisk-prop)

-- two proofs that a drive with its motor off hasn't spun up are the same
rests_prop : (motor : Bool) (spin : ℕ) → IsProp (motor ≡ false → spin ≡ 0)
rests_prop motor spin = hlevel props

-- ---- the parts that move

-- what a mechanism is, but for its limits
pub record Parts : Type 0 where
  pub medium : Option Disk
  pub cylinder : ℕ
  pub place : ℕ
  pub motor : Bool
  pub spin : ℕ
  pub change : Bool
  pub gate : Bool
  pub cut : Bool
  pub replaced : Bool

-- the mechanism with these parts
abbrev mechanics_of : (p : Parts) → p.cylinder ≤ 82 → p.place ≤ track_words p.medium - 1 → p.spin ≤ 6250
    → (p.motor ≡ false → p.spin ≡ 0) → ForSome p.medium IsDisk → Mechanics
mechanics_of p reached on_track spun rests disk = record {
  medium = p.medium;
  cylinder = p.cylinder;
  place = p.place;
  motor = p.motor;
  spin = p.spin;
  change = p.change;
  gate = p.gate;
  cut = p.cut;
  replaced = p.replaced;
  on_a_cylinder = reached;
  on_the_track = on_track;
  spun_up = spun;
  at_rest = rests;
  a_disk = disk;
}

-- the parts of a mechanism
abbrev pub parts_of : Mechanics → Parts
parts_of m = record {
  medium = m.medium;
  cylinder = m.cylinder;
  place = m.place;
  motor = m.motor;
  spin = m.spin;
  change = m.change;
  gate = m.gate;
  cut = m.cut;
  replaced = m.replaced;
}

-- two mechanisms with the same parts are the same, whatever the proofs of their limits
same_limits : (one : Mechanics) (reached : one.cylinder ≤ 82) (on_track : one.place ≤ track_words one.medium - 1)
    (spun : one.spin ≤ 6250) (rests : one.motor ≡ false → one.spin ≡ 0) (disk : ForSome one.medium IsDisk)
    → mechanics_of (parts_of one) reached on_track spun rests disk ≡ one
same_limits one reached on_track spun rests disk =
    rw (
      le_prop reached one.on_a_cylinder,
      le_prop on_track one.on_the_track,
      le_prop spun one.spun_up,
      rests_prop one.motor one.spin rests one.at_rest,
      disk_prop one.medium disk one.a_disk,
    ) refl

pub same_mechanics : (one : Mechanics) (p : Parts) (reached : p.cylinder ≤ 82)
    (on_track : p.place ≤ track_words p.medium - 1) (spun : p.spin ≤ 6250) (rests : p.motor ≡ false → p.spin ≡ 0)
    (disk : ForSome p.medium IsDisk)
    → parts_of one ≡ p → mechanics_of p reached on_track spun rests disk ≡ one
same_mechanics one p reached on_track spun rests disk same =
    let P : Parts → Type 0 = λ p. (reached : p.cylinder ≤ 82) (on_track : p.place ≤ track_words p.medium - 1)
    (spun : p.spin ≤ 6250) (rests : p.motor ≡ false → p.spin ≡ 0) (disk : ForSome p.medium IsDisk)
    → mechanics_of p reached on_track spun rests disk ≡ one in
    subst P same (same_limits one) reached on_track spun rests disk

-- ---- planned faults

pub each_fits : (faults : List Fault) → EachFits (λ _. ⊤) faults
each_fits [] = tt
each_fits (fault ∷ faults) = (tt, each_fits faults)

-- the drive with these parts
abbrev script_drive_of : (mechanics : Mechanics) (plan : List Fault) (faults : ℕ) → faults ≤ last_count → ScriptDrive
script_drive_of mechanics plan faults counted = record { mechanics = mechanics; plan = plan; faults = faults; counted = counted }

same_count : (one : ScriptDrive) (counted : one.faults ≤ last_count)
    → script_drive_of one.mechanics one.plan one.faults counted ≡ one
same_count one counted = rw (le_prop counted one.counted) refl

pub same_script_drive : (one : ScriptDrive) (mechanics : Mechanics) (plan : List Fault) (faults : ℕ) (counted : faults ≤ last_count)
    → mechanics ≡ one.mechanics → plan ≡ one.plan → one.faults ≡ faults → script_drive_of mechanics plan faults counted ≡ one
same_script_drive one mechanics plan faults counted same_mechanics same_plan same_faults =
    let P : ℕ → Type 0 = λ n. (counted : n ≤ last_count) → script_drive_of one.mechanics one.plan n counted ≡ one in
    rw (same_mechanics, same_plan) (subst P same_faults (same_count one) counted)
