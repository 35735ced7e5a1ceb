-- What a medium is, except for its cells.
use Rattle.std.specs.Prelude.{◌≡◌, ℕ, Option, None, Some, if◌then◌else◌}
use Rattle.telwyddus_c.specs.Common.{Rate, R500, R250, Disk}
use Rattle.telwyddus_c.specs.declared.shape.MediumShape.{MediumShape}

-- a rate in kbit/s
abbrev pub kilobits_of : Rate → ℕ
kilobits_of R500 = 500
kilobits_of R250 = 250

-- the shape of a medium
abbrev pub shape_of : Disk → MediumShape
shape_of disk = record {
  words = disk.words_per_track;
  kilobits = kilobits_of disk.rate;
  cylinders = disk.cylinders;
  heads = disk.heads;
  is_protected = if disk.protected then 1 else 0;
}

-- the shape of a medium is reported: code 0. If there is no medium, the code is 7 and what was reported stays
abbrev pub TellsShape : Option Disk → ℕ → (was told : MediumShape) → Type 0
TellsShape None code was told = (code ≡ 7) × (told ≡ was)
TellsShape (Some disk) code was told = (code ≡ 0) × (told ≡ shape_of disk)
