-- The contents of a medium's sectors, one after the other.
use Rattle.std.proofs.Common.{◌≡◌, ◌∙◌, ◌+◌, ◌*◌, ◌/◌, ◌%◌, ◌<◌, ◌≤◌, ◌==◌, ◌++◌, [], ℕ, zero, suc, Bool, true, false, List, refl, ap, sym, subst, arith, ⊎_elim}
use Rattle.std.specs.Prelude.{Some, None, Option, IsSome, if◌then◌else◌}
use Rattle.flat_files.proofs.Common.{cases_lt, eqb-false, eqb-true, ImdSector, ImdTrack, IsReached, Lack, is_plain, sector_on, IsForm, cylinder_of, head_of, tracks_of, FlatForm}
use Rattle.flat_files.specs.Files.{AddsRecords, AreOfTracks}

more : (n : ℕ) → suc n ≡ n + 1
more n = omega arith

pub no_records : (tracks : List ImdTrack) (n c h : ℕ) (bytes : List ℕ) → AddsRecords tracks n c h 0 bytes bytes
unfolding AddsRecords
no_records tracks n c h bytes = refl

pub more_records : (tracks : List ImdTrack) (n c h count : ℕ) (old between new content : List ℕ) → AddsRecords tracks n c h count old between
    → (sector : ImdSector) × (sector_on tracks n c h (count + 1) ≡ Some sector) × (content ≡ sector.content) → new ≡ between ++ content
    → AddsRecords tracks n c h (count + 1) old new
unfolding AddsRecords
more_records tracks n c h count old between new content adds found added =
    subst (λ (k : ℕ). AddsRecords tracks n c h k old new) (more count)
    (between, adds, (found.0, found.1, added ∙ ap (λ (bytes : List ℕ). between ++ bytes) found.2))

-- each of the first `count` records is on the track if their contents were added
records_there : (tracks : List ImdTrack) (n c h count : ℕ) (old new : List ℕ) → AddsRecords tracks n c h count old new → (k : ℕ) → 1 ≤ k → k ≤ count
    → IsSome (sector_on tracks n c h k)
unfolding AddsRecords
records_there tracks n c h zero old new adds k least most = absurd (omega (arith, least, most))
records_there tracks n c h (suc count) old new adds k least most =
    ⊎_elim (λ (early : k < count + 1). records_there tracks n c h count old adds.0 adds.1 k least (omega (arith, early)))
    (λ (late : count + 1 ≤ k). let last : count + 1 ≡ k = omega (arith, late, most) in
    subst (λ (j : ℕ). IsSome (sector_on tracks n c h j)) last (subst (λ (o : Option ImdSector). IsSome o) (sym adds.2.1) refl))
    (cases_lt k (count + 1))

pub no_tracks : (tracks : List ImdTrack) (form : FlatForm) → AreOfTracks tracks form 0 []
unfolding AreOfTracks
no_tracks tracks form = refl

pub more_tracks : (tracks : List ImdTrack) (form : FlatForm) (track : ℕ) (before bytes : List ℕ) → AreOfTracks tracks form track before
    → is_plain tracks form.sectors (cylinder_of form track) (head_of form track) ≡ true
    → AddsRecords tracks form.n (cylinder_of form track) (head_of form track) form.sectors before bytes
    → AreOfTracks tracks form (track + 1) bytes
unfolding AreOfTracks
more_tracks tracks form track before bytes are plain adds =
    subst (λ (k : ℕ). AreOfTracks tracks form k bytes) (more track) (before, are, plain, adds)

-- the number of a track among all tracks, by cylinder, then head
pub record IsAt (form : FlatForm) (track c h : ℕ) : Type 0 where
  pub cylinder : c < form.cylinders
  pub head : h < form.heads
  pub place : track ≡ form.heads * c + h

at_by : (form : FlatForm) (track : ℕ) (single : Bool) → (form.heads == 1) ≡ single → IsForm form
    → track < (if single then form.cylinders else 2 * form.cylinders)
    → IsAt form track (if single then track else track / 2) (if single then 0 else track % 2)
at_by form track true is valid there =
    let one : form.heads ≡ 1 = eqb-true form.heads 1 is in
    record { cylinder = there; head = omega (arith, one); place = rw one (omega arith) }
at_by form track false is valid there =
    let two : form.heads ≡ 2 = omega (arith, eqb-false form.heads 1 is, valid.some_heads, valid.most_heads) in
    record { cylinder = omega (arith, there); head = omega (arith, two); place = rw two (omega arith) }

pub at_place : (form : FlatForm) (track : ℕ) → IsForm form → track < tracks_of form → IsAt form track (cylinder_of form track) (head_of form track)
at_place form track is there = at_by form track (form.heads == 1) refl is there

-- the tracks before this one are as a flat file has them
pub reached : (tracks : List ImdTrack) (form : FlatForm) (track : ℕ) (before : List ℕ) → IsForm form → track < tracks_of form
    → AreOfTracks tracks form track before → IsReached tracks form (cylinder_of form track) (head_of form track)
reached tracks form track before is there are =
    let at = at_place form track is there in
    record {
      cylinder = at.cylinder;
      head = at.head;
      before = before;
      are = subst (λ (n : ℕ). AreOfTracks tracks form n before) at.place are;
    }

-- the first i records are there, and the next record isn't
pub next_lacks : (tracks : List ImdTrack) (form : FlatForm) (track i : ℕ) (before between : List ℕ) → IsForm form → track < tracks_of form → i < form.sectors
    → AreOfTracks tracks form track before → is_plain tracks form.sectors (cylinder_of form track) (head_of form track) ≡ true
    → AddsRecords tracks form.n (cylinder_of form track) (head_of form track) i before between
    → sector_on tracks form.n (cylinder_of form track) (head_of form track) (i + 1) ≡ None
    → Lack tracks form (cylinder_of form track) (head_of form track) (i + 1)
next_lacks tracks form track i before between is there below are plain adds none = (
  reached tracks form track before is there are,
  plain,
  record {
    from_first = omega arith;
    to_last = omega (arith, below);
    there_before = λ k least less. records_there tracks form.n (cylinder_of form track) (head_of form track) i before between adds k least (omega (arith, less));
    lacks = none;
  },
)
