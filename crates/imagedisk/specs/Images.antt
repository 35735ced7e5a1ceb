-- The images that ImageDisk files hold.
use Rattle.std.specs.Prelude.{◌≡◌, ℕ, ◌*◌, ◌^◌, ◌<◌, ◌≤◌, List, [], length, slice_index, All, AllPairs}
use Rattle.imagedisk.specs.Common.{R500, IsKey}
use Rattle.imagedisk.specs.declared.sector.ImdKind.{ImdKind}
use Rattle.imagedisk.specs.declared.sector.ImdKind.TheVariants.{Absent, Good, Deleted, Bad, BadDeleted}
use Rattle.imagedisk.specs.declared.sector.ImdSector.{ImdSector}
use Rattle.imagedisk.specs.declared.track.ImdTrack.{ImdTrack}
use Rattle.imagedisk.specs.declared.image.ImdImage.{ImdImage}

-- how many bytes an image keeps of a sector of this kind and size code n
abbrev pub kept_size : ImdKind → ℕ → ℕ
kept_size Absent n = 0
kept_size Good n = 128 * 2 ^ n
kept_size Deleted n = 128 * 2 ^ n
kept_size Bad n = 128 * 2 ^ n
kept_size BadDeleted n = 128 * 2 ^ n

-- each of the numbers is a byte
abbrev pub AreBytes : List ℕ → Type 0
AreBytes content = (j : ℕ) → slice_index content j < 2 ^ 8

-- a sector on a track of size code n, whose fields and content are bytes
pub record IsImdSector (n : ℕ) (sector : ImdSector) : Type 0 where
  pub coded : sector.key.n ≡ n
  pub size : length sector.content ≡ kept_size sector.kind n
  pub key : IsKey sector.key
  pub bytes : AreBytes sector.content

-- a track of an ImageDisk file
pub record IsImdTrack (track : ImdTrack) : Type 0 where
  pub cylinder : track.c ≤ 79
  pub head : track.h ≤ 1
  pub coded : (1 ≤ track.n) × (track.n ≤ 6)
  pub count : length track.sectors ≤ 255
  pub sectors : All (IsImdSector track.n) track.sectors

-- the two tracks have different places
abbrev pub AreApart : ImdTrack → ImdTrack → Type 0
AreApart one two = one.c ≡ two.c → one.h ≡ two.h → ⊥

-- An image that an ImageDisk file can hold. No cylinder and head come twice, and an image without tracks has the rate
-- 500 kbit/s.
pub record IsImdImage (image : ImdImage) : Type 0 where
  pub tracks : All IsImdTrack image.tracks
  pub apart : AllPairs AreApart image.tracks
  pub rate : image.tracks ≡ [] → image.rate ≡ R500
