-- Media in buffers of C.
use Rattle.std.specs.Prelude.{◌≡◌, ℕ, ◌==◌, List, Option, None, Some, MatchBool, ⊤}
use Rattle.telwyddus_c.specs.Common.{TrayValue, Disk}
use Rattle.raw_image.specs.Image.{Spells, file_of}
use Rattle.telwyddus_c.specs.Buffers.{WritesOr}
use Rattle.telwyddus_c.specs.Slots.{FullOr}

-- the image file of a medium is written to a buffer. By the code of the call:
-- - 0: the file is written, and its length is reported;
-- - 7: there is no medium. The buffer and what was reported stay;
-- - 3: memory is out. The buffer and what was reported stay;
-- - 10: the buffer is too short. It stays as it is, and the length is reported.
abbrev pub WritesImage : Option Disk → ℕ → List ℕ → List ℕ → (was told : ℕ) → Type 0
WritesImage None code old new was told = (code ≡ 7) × (new ≡ old) × (told ≡ was)
WritesImage (Some disk) code old new was told = WritesOr (MatchBool (code == 3) ((new ≡ old) × (told ≡ was)) ⊥) (file_of disk) code old new told

-- a tray is made with the medium that the bytes spell. By the code of the call:
-- - 0: the tray is made;
-- - 2: the slot holds a tray already;
-- - 5: the bytes spell no medium;
-- - 3: memory is out.
-- after every code but 0 the slot stays as it was
abbrev pub ReadsImage : List ℕ → ℕ → Option TrayValue → Option TrayValue → Type 0
ReadsImage bytes code old new =
    FullOr code old new ⊤
    (MatchBool (code == 0) ((disk : Disk) × (new ≡ Some (record { medium = Some disk })) × Spells bytes disk)
    (MatchBool (code == 5) (((disk : Disk) → Spells bytes disk → ⊥) × (new ≡ old))
    (MatchBool (code == 3) (new ≡ old) ⊥)))
