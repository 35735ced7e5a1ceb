-- Pairs of drives.
use Rattle.std.specs.Prelude.{[], ◌∷◌}
use Rattle.floppy_tools.specs.Common.{DriveState, IsEmpty, Pace}
use Rattle.floppy_tools.specs.Runs.{Parts}
use Rattle.floppy_tools.specs.declared.drives.Drives.{Drives}

-- both drives are empty, as new ones are
pub record AreEmpty {D : Type 0} (state : D → DriveState) (drives : Drives D) : Type 0 where
  pub first : IsEmpty (state drives.first)
  pub second : IsEmpty (state drives.second)

-- the parts of a machine with these drives in its bays, these spare drives, and this timing (pace)
abbrev pub parts_with : {D : Type 0} → (D → DriveState) → Drives D → Drives D → Pace → Parts
parts_with state bays spare pace = record {
  bay0 = state bays.first;
  bay1 = state bays.second;
  spares = state spare.first ∷ state spare.second ∷ [];
  gaps = pace.gaps.items;
  holds = pace.holds.items;
  strays = pace.strays.items;
}
