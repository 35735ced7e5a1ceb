-- Sectors and tracks are read one after the other, as the loops do.
use Rattle.std.proofs.Common.{◌≡◌, ℕ, zero, suc, ◌-◌, ◌+◌, ◌≤◌, ◌<◌, Bool, true, false, eqb, List, [], ◌∷◌, ◌++◌, length, get_or, ◌&&◌, eq-eqb, Option, Some, None, Result, Ok, Err, refl, sym, ap, ◌∙◌, append_assoc, arith}
use Rattle.imagedisk.proofs.Common.{append-nil, eqb-true, list_any_at, Rate, Chrn, ImageError, ImdSector, ImdTrack, ImdImage, AreApart, has_track, Rest, tracks_begin, sector_at, track_at, image_with}
use Rattle.raw_image.specs.declared.error.ImageError.TheVariants.{NoMemory}
use Rattle.raw_image.specs.Header.{◌>>=◌}
use Rattle.raw_image.specs.Image.{OrNoMemory}
use Rattle.imagedisk.specs.Reading.{sectors_at, tracks_at, image_of}

-- ---- if a part fails, the whole fails

pub fails : {A B : Type 0} (e : ImageError) (read : Result A ImageError) (f : A → Result B ImageError) → OrNoMemory e (read ≡ Err e) → OrNoMemory e ((read >>= f) ≡ Err e)
fails NoMemory read f h = tt
fails _ read f h = rw h refl

pub or-same : {A : Type 0} (e : ImageError) (one two : Result A ImageError) → one ≡ two → OrNoMemory e (one ≡ Err e) → OrNoMemory e (two ≡ Err e)
or-same NoMemory one two same h = tt
or-same _ one two same h = sym same ∙ h

-- ---- sectors

-- the sectors that were read before, followed by those that are still read
abbrev pub with_front : List ImdSector → Result (List ImdSector × Rest) ImageError → Result (List ImdSector × Rest) ImageError
with_front front read = read >>= λ x. Ok (front ++ x.0, x.1)

regroup : (front : List ImdSector) (sector : ImdSector) (read : Result (List ImdSector × Rest) ImageError)
    → with_front front (read >>= λ x. Ok (sector ∷ x.0, x.1)) ≡ with_front (front ++ sector ∷ []) read
regroup front sector (Ok x) = ap (λ (all : List ImdSector). Ok (all, x.1)) (simp append_assoc)
regroup front sector (Err e) = refl

pub goes_on : (key : ℕ → Chrn) (this : Chrn) (front : List ImdSector) (count i : ℕ) (rest : Rest) (sector : ImdSector) (after : Rest) (total : Result (List ImdSector × Rest) ImageError)
    → i < count → this ≡ key i → sector_at this rest ≡ Ok (sector, after)
    → with_front front (sectors_at key i (count - i) rest) ≡ total → with_front (front ++ sector ∷ []) (sectors_at key (i + 1) (count - (i + 1)) after) ≡ total
unfolding sectors_at
goes_on key this front count i rest sector after total lt same read so_far =
    let h : sector_at (key i) rest ≡ Ok (sector, after) = ap (λ (k : Chrn). sector_at k rest) (sym same) ∙ read in
    let k : count - i ≡ suc (count - (i + 1)) = omega arith in
    let next : suc i ≡ i + 1 = omega arith in
    let one : with_front front (sectors_at key i (count - i) rest) ≡ with_front (front ++ sector ∷ []) (sectors_at key (i + 1) (count - (i + 1)) after) =
    rw (k, h, next) (regroup front sector (sectors_at key (i + 1) (count - (i + 1)) after)) in
    sym one ∙ so_far

pub ends : (key : ℕ → Chrn) (this : Chrn) (e : ImageError) (front : List ImdSector) (count i : ℕ) (rest : Rest) (total : Result (List ImdSector × Rest) ImageError)
    → i < count → this ≡ key i → OrNoMemory e (sector_at this rest ≡ Err e)
    → with_front front (sectors_at key i (count - i) rest) ≡ total → OrNoMemory e (total ≡ Err e)
unfolding sectors_at
ends key this e front count i rest total lt same read so_far =
    let h = or-same e (sector_at this rest) (sector_at (key i) rest) (ap (λ (k : Chrn). sector_at k rest) same) read in
    let k : count - i ≡ suc (count - (i + 1)) = omega arith in
    let failed = fails e (sector_at (key i) rest) (λ sector. sectors_at key (suc i) (count - (i + 1)) sector.1 >>= λ others. Ok (sector.0 ∷ others.0, others.1)) h in
    let whole = fails e (sectors_at key i (count - i) rest) (λ x. Ok (front ++ x.0, x.1)) (rw k failed) in
    or-same e (with_front front (sectors_at key i (count - i) rest)) total so_far whole

pub is_done : (key : ℕ → Chrn) (front : List ImdSector) (count i : ℕ) (rest : Rest) (total : Result (List ImdSector × Rest) ImageError)
    → count ≤ i → with_front front (sectors_at key i (count - i) rest) ≡ total → total ≡ Ok (front, rest)
unfolding sectors_at
is_done key front count i rest total le so_far =
    let k : count - i ≡ 0 = omega arith in
    let one : with_front front (sectors_at key i (count - i) rest) ≡ Ok (front, rest) = rw k (ap (λ (all : List ImdSector). Ok (all, rest)) (append-nil front)) in
    sym so_far ∙ one

-- ---- tracks

-- After these tracks came, reading goes on to this answer. It has at least as many steps left as there are bytes.
-- bytes.
pub record ComesTo (rate : Option Rate) (tracks : List ImdTrack) (rest : Rest) (total : Result ImdImage ImageError) : Type 0 where
  pub most : ℕ
  pub enough : length rest.bytes ≤ most
  pub comes : tracks_at most rate tracks rest ≡ total

pub opened : (most : ℕ) (rate : Option Rate) (tracks : List ImdTrack) (rest : Rest) → 0 < length rest.bytes
    → tracks_at (suc most) rate tracks rest ≡ (track_at rate tracks rest >>= λ track. tracks_at most (Some track.0) (tracks ++ track.1 ∷ []) track.2)
unfolding tracks_at
opened most rate tracks rest some =
    let full : eqb (length rest.bytes) 0 ≡ false = grind arith in
    rw full refl

pub next_track : (before : Option Rate) (tracks : List ImdTrack) (rest : Rest) (rate : Rate) (track : ImdTrack) (after : Rest) (total : Result ImdImage ImageError)
    → length after.bytes < length rest.bytes → track_at before tracks rest ≡ Ok (rate, track, after)
    → ComesTo before tracks rest total → ComesTo (Some rate) (tracks ++ track ∷ []) after total
next_track before tracks rest rate track after total shorter read comes =
    elim comes.most as (λ most. length rest.bytes ≤ most → tracks_at most before tracks rest ≡ total → ComesTo (Some rate) (tracks ++ track ∷ []) after total) [
      | zero ↦ (λ enough e. absurd (omega arith))
      | suc most ↦ (λ enough e. record {
        most = most;
        enough = omega arith;
        comes = sym (opened most before tracks rest (omega arith) ∙ rw read refl) ∙ e;
      })
    ] comes.enough comes.comes

pub failed_track : (e : ImageError) (before : Option Rate) (tracks : List ImdTrack) (rest : Rest) (total : Result ImdImage ImageError)
    → 0 < length rest.bytes → OrNoMemory e (track_at before tracks rest ≡ Err e) → ComesTo before tracks rest total → OrNoMemory e (total ≡ Err e)
failed_track e before tracks rest total some failed comes =
    elim comes.most as (λ most. length rest.bytes ≤ most → tracks_at most before tracks rest ≡ total → OrNoMemory e (total ≡ Err e)) [
      | zero ↦ (λ enough is. absurd (omega arith))
      | suc most ↦ (λ enough is.
          or-same e (tracks_at (suc most) before tracks rest) total is
          (rw (opened most before tracks rest some)
          (fails e (track_at before tracks rest) (λ track. tracks_at most (Some track.0) (tracks ++ track.1 ∷ []) track.2) failed)))
    ] comes.enough comes.comes

pub no_more : (rate : Option Rate) (tracks : List ImdTrack) (rest : Rest) (total : Result ImdImage ImageError)
    → length rest.bytes ≡ 0 → ComesTo rate tracks rest total → total ≡ Ok (image_with rate tracks)
unfolding tracks_at
no_more rate tracks rest total none comes =
    elim comes.most as (λ most. tracks_at most rate tracks rest ≡ total → total ≡ Ok (image_with rate tracks)) [
      | zero ↦ (λ is. sym is)
      | suc most ↦ (λ is. let empty : eqb (length rest.bytes) 0 ≡ true = grind arith in sym is ∙ rw empty refl)
    ] comes.comes

-- ---- a track that didn't come yet

pub is_apart : (tracks : List ImdTrack) (track : ImdTrack) → has_track tracks track.c track.h ≡ false
    → (k : ℕ) (d : ImdTrack) → k < length tracks → AreApart (get_or tracks k d) track
is_apart tracks track fresh k d lt same_c same_h =
    let test : ImdTrack → Bool = λ (t : ImdTrack). eqb t.c track.c && eqb t.h track.h in
    let yes : test (get_or tracks k d) ≡ true = rw (eq-eqb (get_or tracks k d).c track.c same_c, eq-eqb (get_or tracks k d).h track.h same_h) refl in
    let met : has_track tracks track.c track.h ≡ true = list_any_at test tracks k d lt yes in
    absurd cc

-- ---- the whole file

abbrev all_tracks : Rest → Result ImdImage ImageError
all_tracks rest = tracks_at (length rest.bytes) None [] rest

pub begun_fails : (e : ImageError) (bytes : List ℕ) → OrNoMemory e (tracks_begin bytes ≡ Err e) → OrNoMemory e (image_of bytes ≡ Err e)
unfolding image_of
begun_fails e bytes h = fails e (tracks_begin bytes) all_tracks h

pub begun : (bytes : List ℕ) (rest : Rest) → tracks_begin bytes ≡ Ok rest → ComesTo None [] rest (image_of bytes)
unfolding image_of
begun bytes rest h = record { most = length rest.bytes; enough = omega arith; comes = sym (ap (λ (r : Result Rest ImageError). r >>= all_tracks) h) }

pub not_empty : (tracks : List ImdTrack) (track : ImdTrack) → tracks ++ track ∷ [] ≡ [] → ⊥
not_empty [] track e = cc
not_empty (t ∷ ts) track e = cc

-- ---- whether bytes are left

pub some_left : (count : ℕ) (empty : Bool) → empty ≡ eqb count 0 → empty ≡ false → 0 < count
some_left zero empty is_test full = absurd cc
some_left (suc count) empty is_test full = omega arith

pub none_left : (count : ℕ) (empty : Bool) → empty ≡ eqb count 0 → empty ≡ true → count ≡ 0
none_left count empty is_test none = eqb-true count 0 (sym is_test ∙ none)
