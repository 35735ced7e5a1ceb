-- The bytes of a saved drive of a bay.
use Rattle.std.specs.Prelude.{◌≡◌, ℕ, Bool, List, Option, Some, None, not, is_some}
use Rattle.saved_state.specs.Saved.{spelled_bytes, spelled_count, spelled_flag}
use Rattle.drive_model.specs.Saving.{spelled_script_drive}
use Rattle.drive_model.specs.Maps.{IsMap}
use Rattle.c_bay_drive.specs.declared.bay.BayDrive.{BayDrive}
use Rattle.c_bay_drive.specs.declared.cable.Pulled.{Pulled}

-- of a pulled cable: the change line, and the pulses that were lost
abbrev pub spelled_pulled : Pulled → List ℕ → List ℕ
spelled_pulled pulled rest = spelled_flag pulled.change (spelled_count pulled.lost rest)

abbrev pub spelled_cable : Option Pulled → List ℕ → List ℕ
spelled_cable None rest = rest
spelled_cable (Some pulled) rest = spelled_pulled pulled rest

-- how the state of a cable is read; the cable is in or not
abbrev pub GivesCable : Bool → List ℕ → Option Pulled → List ℕ → Type 0
GivesCable attached old result new =
    (pulled : Option Pulled) (rest : List ℕ) → attached ≡ not (is_some pulled) → old ≡ spelled_cable pulled rest → (result ≡ pulled) × (new ≡ rest)

-- the bytes of a drive of a bay: 1 if the cable is in, else 0; the drive within; whether a word of the medium was
-- replaced; the tracks that were written; and the state of a pulled cable
abbrev pub spelled_bay : BayDrive → List ℕ → List ℕ
spelled_bay bay rest =
    spelled_flag (not (is_some bay.pulled)) (spelled_script_drive bay.inside (spelled_flag bay.replaced (spelled_bytes bay.tracks
    (spelled_cable bay.pulled rest))))

abbrev pub BayFits : BayDrive → Type 0
BayFits bay = IsMap bay.tracks
