-- Flat sector files in buffers of C.
use Rattle.std.specs.Prelude.{◌≡◌, ◌==◌, ℕ, List, length, Option, None, Some, Result, Ok, Err, MatchBool, MatchOption, ⊤}
use Rattle.telwyddus_c.specs.Common.{Vec, TrayValue, GivesFlat, Disk, ImageError}
use Rattle.sector_map.specs.Flat.{sectors_told}
use Rattle.flat_files.specs.Flats.{HasFlat}
use Rattle.flat_files.specs.declared.fault.FlatFault.{FlatFault}
use Rattle.flat_files.specs.declared.fault.FlatFault.TheVariants.{Shape, Unfit, More, Lacks, NoMemory}
use Rattle.telwyddus_c.specs.Buffers.{WritesBytes}
use Rattle.telwyddus_c.specs.Slots.{FullOr}

-- a tray is made with a medium that has the sectors of a flat file and no others. By the code of the call:
-- - 0: the tray is made;
-- - 2: the slot holds a tray already;
-- - 5: no flat file has so many bytes;
-- - 3: memory is out.
-- after every code but 0 the slot stays as it was
abbrev pub ReadsFlat : List ℕ → ℕ → Option TrayValue → Option TrayValue → Type 0
ReadsFlat bytes code old new =
    FullOr code old new ⊤
    (MatchBool (code == 0) ((disk : Disk) × (sectors : ℕ) × HasFlat bytes sectors disk × (new ≡ Some (record { medium = Some disk })))
    (MatchBool (code == 5) (((error : ImageError) × (sectors_told (length bytes) ≡ Err error)) × (new ≡ old))
    (MatchBool (code == 3) (new ≡ old) ⊥)))

-- why a medium has no flat file: the cylinder and head of the first track that no image can have, that has more than a
-- flat file takes, or that lacks a sector. Both are 255 if the medium has another shape. If memory is out, nothing is
-- said of the medium
abbrev pub place_of : FlatFault → Option (ℕ × ℕ)
place_of Shape = Some (255, 255)
place_of (Unfit c h) = Some (c, h)
place_of (More c h) = Some (c, h)
place_of (Lacks c h r) = Some (c, h)
place_of NoMemory = None

-- a medium has no flat file: code 21, and the track is reported. Or memory is out: code 3, and what was reported stays
abbrev pub TellsFault : FlatFault → ℕ → (c_was c_told h_was h_told : ℕ) → Type 0
TellsFault fault code c_was c_told h_was h_told =
    MatchOption (place_of fault) ((code ≡ 3) × (c_told ≡ c_was) × (h_told ≡ h_was))
    (λ place. (code ≡ 21) × (c_told ≡ place.0) × (h_told ≡ place.1))

-- the flat file is written to a buffer, or the reason why there is none is reported, and all else stays
abbrev pub TellsFlat : Result (Vec ℕ) FlatFault → ℕ → List ℕ → List ℕ → (was told c_was c_told h_was h_told : ℕ) → Type 0
TellsFlat (Ok file) code old new was told c_was c_told h_was h_told =
    WritesBytes file.items code old new told × (c_told ≡ c_was) × (h_told ≡ h_was)
TellsFlat (Err fault) code old new was told c_was c_told h_was h_told =
    TellsFault fault code c_was c_told h_was h_told × (new ≡ old) × (told ≡ was)

-- the flat file of a medium, if it has one, and what is reported of it: code 0, or 10 if the buffer is too short
abbrev pub WritesSectors : Disk → ℕ → List ℕ → List ℕ → (was told c_was c_told h_was h_told : ℕ) → Type 0
WritesSectors disk code old new was told c_was c_told h_was h_told =
    (answer : Result (Vec ℕ) FlatFault) × GivesFlat disk answer × TellsFlat answer code old new was told c_was c_told h_was h_told

-- the flat file of the medium in a tray. If there is no medium, the code is 7 and all stays
abbrev pub WritesFlat : Option Disk → ℕ → List ℕ → List ℕ → (was told c_was c_told h_was h_told : ℕ) → Type 0
WritesFlat None code old new was told c_was c_told h_was h_told =
    (code ≡ 7) × (new ≡ old) × (told ≡ was) × (c_told ≡ c_was) × (h_told ≡ h_was)
WritesFlat (Some disk) code old new was told c_was c_told h_was h_told = WritesSectors disk code old new was told c_was c_told h_was h_told
