-- Media between a tray and a drive.
use Rattle.std.specs.Prelude.{◌≡◌, ℕ, ◌==◌, Option, None, Some, IsSome, MatchBool}
use Rattle.telwyddus_c.specs.Common.{TrayValue, DriveState, loaded, unloaded, Disk}
use Rattle.telwyddus_c.specs.Slots.{FullOr}

-- the medium of a tray goes into a drive: code 0. If the drive has one in, 6, or if the tray has none, 7, both stay as
-- they were
abbrev pub PutsIn : ℕ → TrayValue → TrayValue → DriveState → DriveState → Type 0
PutsIn code tray left before after =
    MatchBool (code == 0) ((disk : Disk) × (tray.medium ≡ Some disk) × (before.medium ≡ None) × (left.medium ≡ None) × (after ≡ loaded disk before))
    (MatchBool (code == 6) (IsSome tray.medium × IsSome before.medium × (left ≡ tray) × (after ≡ before))
    (MatchBool (code == 7) ((tray.medium ≡ None) × (left ≡ tray) × (after ≡ before)) ⊥))

-- the medium goes from the slot of a tray into a drive. If the slot holds no tray, the code is 7
abbrev pub Inserts : ℕ → Option TrayValue → Option TrayValue → DriveState → DriveState → Type 0
Inserts code None left before after = (code ≡ 7) × (left ≡ None) × (after ≡ before)
Inserts code (Some tray) left before after = (kept : TrayValue) × (left ≡ Some kept) × PutsIn code tray kept before after

-- the medium of a drive goes into a new tray. By the code of the call:
-- - 0: the tray is made;
-- - 2: the slot holds a tray already;
-- - 3: memory is out;
-- - 7: the drive has no medium in.
-- after every code but 0 the slot and the drive stay as they were
abbrev pub Ejects : ℕ → Option TrayValue → Option TrayValue → DriveState → DriveState → Type 0
Ejects code tray left before after =
    FullOr code tray left (after ≡ before)
    (MatchBool (code == 0) ((disk : Disk) × (before.medium ≡ Some disk) × (left ≡ Some (record { medium = Some disk }))
    × (after ≡ unloaded before))
    (MatchBool (code == 7) ((before.medium ≡ None) × (left ≡ tray) × (after ≡ before))
    (MatchBool (code == 3) ((left ≡ tray) × (after ≡ before)) ⊥)))
