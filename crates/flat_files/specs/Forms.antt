-- The geometry of a flat file: its sectors and nothing else, by cylinder, then head, then record.
use Rattle.std.specs.Prelude.{ℕ, ◌+◌, ◌*◌, ◌/◌, ◌%◌, ◌^◌, ◌≤◌, ◌==◌, if◌then◌else◌}
use Rattle.flat_files.specs.declared.form.FlatForm.{FlatForm}

-- a medium can have this geometry
pub record IsForm (form : FlatForm) : Type 0 where
  pub some_cylinders : 1 ≤ form.cylinders
  pub most_cylinders : form.cylinders ≤ 80
  pub some_heads : 1 ≤ form.heads
  pub most_heads : form.heads ≤ 2
  pub some_sectors : 1 ≤ form.sectors
  pub some_size : 1 ≤ form.n
  pub most_size : form.n ≤ 6

-- how many tracks there are
abbrev pub tracks_of : FlatForm → ℕ
tracks_of form = if form.heads == 1 then form.cylinders else 2 * form.cylinders

-- the cylinder of the track with this number, counted by cylinder, then head, and below it the head of that track
abbrev pub cylinder_of : FlatForm → ℕ → ℕ
cylinder_of form track = if form.heads == 1 then track else track / 2

abbrev pub head_of : FlatForm → ℕ → ℕ
head_of form track = if form.heads == 1 then 0 else track % 2

-- the number of bytes of a sector
abbrev pub sector_bytes : FlatForm → ℕ
sector_bytes form = 128 * 2 ^ form.n

-- the number of bytes of the file
abbrev pub file_length : FlatForm → ℕ
file_length form = tracks_of form * form.sectors * sector_bytes form

-- where sector i of a track, counted from 0, begins in the file
abbrev pub sector_place : FlatForm → (track i : ℕ) → ℕ
sector_place form track i = (track * form.sectors + i) * sector_bytes form
