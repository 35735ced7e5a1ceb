-- What a session keeps of each medium that is in: its shape.
use Rattle.std.specs.Prelude.{◌≡◌, Option}
use Rattle.std.specs.Option.{option_map}
use Rattle.raw_image.specs.Disk.{Disk}
use Rattle.flop_base.specs.Bays.{Two}
use Rattle.sector_model.specs.Stations.{Bay}
use Rattle.floppy_session.specs.declared.shape.Shape.{Shape}

-- the shape of a disk, which is all but its protection and its words
abbrev pub shape_of : Disk → Shape
shape_of disk = record { cylinders = disk.cylinders; heads = disk.heads; words = disk.words_per_track; rate = disk.rate }

-- the shape of the medium in a bay, if one is in
abbrev pub shape_in : Bay → Option Shape
shape_in bay = option_map shape_of bay.medium

-- these are the shapes of the media that are in
pub record AreShapes (shapes : Two (Option Shape)) (bays : Two Bay) : Type 0 where
  pub first : shapes.first ≡ shape_in bays.first
  pub second : shapes.second ≡ shape_in bays.second
