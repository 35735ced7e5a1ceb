-- The medium of a flat file.
use Rattle.std.specs.Prelude.{◌≡◌, ◌+◌, ℕ, List, length, map, slice_range, Result, Ok, Err}
use Rattle.flat_files.specs.Common.{range_with_len, HasImage, IsFirstCrowded, IsMediumOf, ImdImage, Good, ImdSector, ImdTrack, Disk, narrow_gap}
use Rattle.flat_files.specs.Forms.{IsForm, cylinder_of, file_length, head_of, sector_bytes, sector_place, tracks_of}
use Rattle.flat_files.specs.declared.form_fault.FormFault.{FormFault}
use Rattle.flat_files.specs.declared.form_fault.FormFault.TheVariants as fault
use Rattle.flat_files.specs.declared.form.FlatForm.{FlatForm}

-- Sector i of a track, counted from 0: it has its bytes of the file, and its record number is i + 1.
abbrev pub form_sector : FlatForm → List ℕ → (track i : ℕ) → ImdSector
form_sector form bytes track i = record {
  key = record { c = cylinder_of form track; h = head_of form track; r = i + 1; n = form.n };
  kind = Good;
  content = slice_range bytes (sector_place form track i) (sector_place form track i + sector_bytes form);
}

-- a track with this number, counted by cylinder, then head
abbrev pub form_track : FlatForm → List ℕ → (track : ℕ) → ImdTrack
form_track form bytes track = record {
  c = cylinder_of form track;
  h = head_of form track;
  n = form.n;
  sectors = map (form_sector form bytes track) (range_with_len 0 form.sectors);
}

-- all sectors of a file
abbrev pub form_image : FlatForm → List ℕ → ImdImage
form_image form bytes = record { rate = form.rate; tracks = map (form_track form bytes) (range_with_len 0 (tracks_of form)) }

-- a disk has the sectors of a file of this form, and no others
pub record HasForm (form : FlatForm) (bytes : List ℕ) (disk : Disk) : Type 0 where
  pub form_is : IsForm form
  pub whole : length bytes ≡ file_length form
  pub made : IsMediumOf narrow_gap (form_image form bytes) disk
  pub found : HasImage disk (form_image form bytes)

-- The medium of a flat file, or why there is none, unless memory ran out. There is no such geometry, the file has
-- another length, or a track has no room, however narrow the gaps between its sectors.
abbrev pub MakesForm : FlatForm → List ℕ → Result Disk FormFault → Type 0
MakesForm form bytes (Ok disk) = HasForm form bytes disk
MakesForm form bytes (Err fault.NoForm) = IsForm form → ⊥
MakesForm form bytes (Err fault.Length) = length bytes ≡ file_length form → ⊥
MakesForm form bytes (Err fault.Crowded) = (c : ℕ) × (h : ℕ) × (i : ℕ) × IsFirstCrowded narrow_gap (form_image form bytes) c h i
MakesForm form bytes (Err fault.NoMemory) = Unit {0}
