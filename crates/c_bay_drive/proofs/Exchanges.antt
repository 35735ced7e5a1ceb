-- Another medium is put in place of the one in a drive, and back.
use Rattle.std.proofs.Common.{◌≡◌, ℕ, Bool, List, Option, refl, sym, ◌∙◌, ap}
use Rattle.raw_image.specs.Disk.{Disk}
use Rattle.drive_model.specs.Drive.{DriveState}
use Rattle.drive_model.specs.ScriptDrive.{script_of, script_state}
use Rattle.drive_model.specs.declared.script.ScriptDrive.{ScriptDrive}
use Rattle.drive_model.proofs.Saved.{Parts, parts_of, same_mechanics, same_script_drive}
use Rattle.c_bay_drive.specs.Bays.{bay_state}
use Rattle.c_bay_drive.specs.WithMedium.{ScriptWithMedium, BayWithMedium}
use Rattle.c_bay_drive.specs.declared.bay.BayDrive.{BayDrive}
use Rattle.c_bay_drive.specs.declared.cable.Pulled.{Pulled}

-- a state in which this medium is in
abbrev with : Option Disk → DriveState → DriveState
with medium s = record s { medium = medium }

-- ---- a drive is determined by its state and its planned faults

abbrev parts_in : DriveState → Parts
parts_in s = record {
  medium = s.medium;
  cylinder = s.cylinder;
  place = s.place;
  motor = s.motor;
  spin = s.spin;
  change = s.change;
  gate = s.gate;
  cut = s.cut;
  replaced = s.replaced;
}

same_script : (one other : ScriptDrive) → script_state one ≡ script_state other → script_of one ≡ script_of other → other ≡ one
same_script one other state script =
    let mechanics : other.mechanics ≡ one.mechanics = same_mechanics one.mechanics (parts_of other.mechanics) other.mechanics.on_a_cylinder
    other.mechanics.on_the_track other.mechanics.spun_up other.mechanics.at_rest other.mechanics.a_disk (ap parts_in state) in
    same_script_drive one other.mechanics other.plan other.faults other.counted mechanics (sym script) (ap (λ s. s.faults) state)

abbrev bay_of : ScriptDrive → Bool → List ℕ → Option Pulled → BayDrive
bay_of inside replaced tracks pulled = record { inside = inside; replaced = replaced; tracks = tracks; pulled = pulled }

same_bay : (one other : BayDrive) → other.inside ≡ one.inside → other.replaced ≡ one.replaced → other.tracks ≡ one.tracks → other.pulled ≡ one.pulled
    → other ≡ one
same_bay one other inside replaced tracks pulled =
    ap (λ it. bay_of it other.replaced other.tracks other.pulled) inside
    ∙ ap (λ it. bay_of one.inside it other.tracks other.pulled) replaced
    ∙ ap (λ it. bay_of one.inside one.replaced it other.pulled) tracks
    ∙ ap (λ it. bay_of one.inside one.replaced one.tracks it) pulled

-- ---- there is only one drive that is the same with another medium

one_script : (medium : Option Disk) (old a b : ScriptDrive) → ScriptWithMedium medium old a → ScriptWithMedium medium old b → b ≡ a
one_script medium old a b first second = same_script a b (first.state ∙ sym second.state) (first.script ∙ sym second.script)

pub one_bay : (medium : Option Disk) (old a b : BayDrive) → BayWithMedium medium old a → BayWithMedium medium old b → b ≡ a
one_bay medium old a b first second =
    same_bay a b (one_script medium old.inside a.inside b.inside first.inside second.inside)
    (second.replaced ∙ sym first.replaced) (second.tracks ∙ sym first.tracks) (second.pulled ∙ sym first.pulled)

-- ---- the same medium, and the one that was in

-- a drive has its own medium in
pub stays_bay : (drive : BayDrive) → BayWithMedium (bay_state drive).medium drive drive
stays_bay drive = record { inside = record { state = refl; script = refl }; replaced = refl; tracks = refl; pulled = refl }

back_script : (medium : Option Disk) (old new : ScriptDrive) → ScriptWithMedium medium old new → ScriptWithMedium (script_state old).medium new old
back_script medium old new it = record { state = sym (ap (with (script_state old).medium) it.state); script = sym it.script }

-- a drive that had another medium has its own in again, once that is back
pub back_bay : (medium : Option Disk) (old new : BayDrive) → BayWithMedium medium old new → BayWithMedium (bay_state old).medium new old
back_bay medium old new it = record {
  inside = back_script medium old.inside new.inside it.inside;
  replaced = sym it.replaced;
  tracks = sym it.tracks;
  pulled = sym it.pulled;
}

-- the medium is the one that is in
pub medium_in_bay : (medium : Option Disk) (old new : BayDrive) → BayWithMedium medium old new → (bay_state new).medium ≡ medium
medium_in_bay medium old new it = ap (λ s. s.medium) it.inside.state
