-- The tracks of an image on the medium of the image.
use Rattle.std.proofs.Common.{◌≡◌, ℕ, zero, suc, ◌+◌, ◌-◌, ◌*◌, ◌≤◌, ◌<◌, Bool, true, false, cond, eqb, List, [], ◌∷◌, ◌++◌, length, get_or, take, drop, replicate, Err, refl, sym, ap, subst, ◌∙◌, arith, eq-eqb, inl, inr}
use Rattle.std.specs.Prelude.{max}
use Rattle.imagedisk.proofs.Common.{list_any, cases_lt, drop_all, get_or_default, append-nil, length-take, take-replicate, drop-replicate, mul-le-mul_right, list_any_at, Rate, words_at, Disk, IsDisk, HasTrack, IsWithTrack, track_of, track_start, blank_disk, ImdTrack, ImdImage, IsImdImage, ImdError, Unfit, NoMemory, IsMadeTrack, IsCrowded, MakesTrack, cylinder_count, head_count, HasShape, HasFirst, IsRoomy, PutsTrack}
use Rattle.imagedisk.proofs.Places.{last_number}

-- ---- how many cylinders and heads

pub some_cylinders : (tracks : List ImdTrack) → 1 ≤ cylinder_count tracks
some_cylinders [] = omega arith
some_cylinders (track ∷ tracks) = let ih = some_cylinders tracks in omega (arith, ih)

pub last_count : (count : ℕ) (tracks : List ImdTrack) (i : ℕ) → length tracks ≤ i → 1 ≤ count → max count (cylinder_count (drop i tracks)) ≡ count
last_count count tracks i le least = let none : cylinder_count (drop i tracks) ≡ 1 = ap cylinder_count (drop_all i tracks le) in omega (arith, none)

pub cylinder_in : (tracks : List ImdTrack) (i : ℕ) (d : ImdTrack) → i < length tracks → (get_or tracks i d).c < cylinder_count tracks
cylinder_in [] i d lt = absurd (omega arith)
cylinder_in (track ∷ tracks) zero d lt = omega arith
cylinder_in (track ∷ tracks) (suc i) d lt = let ih = cylinder_in tracks i d (omega arith) in omega (arith, ih)

head_by : (h : ℕ) (t : Bool) → h ≤ 1 → (h ≡ 1 → t ≡ true) → h < cond t 2 1
head_by zero true le met = omega arith
head_by zero false le met = omega arith
head_by (suc h) true le met = omega arith
head_by (suc h) false le met = let e : suc h ≡ 1 = omega arith in let wrong = met e in absurd cc

pub head_in : (tracks : List ImdTrack) (i : ℕ) (d : ImdTrack) → i < length tracks → (get_or tracks i d).h ≤ 1 → (get_or tracks i d).h < head_count tracks
head_in tracks i d lt le =
    head_by (get_or tracks i d).h (list_any (λ (track : ImdTrack). eqb track.h 1) tracks) le (λ e. list_any_at (λ (track : ImdTrack). eqb track.h 1) tracks i d lt (eq-eqb (get_or tracks i d).h 1 e))

-- ---- tracks of a disk

-- a track lies wholly inside the words of the disk
track_inside : (disk : Disk) (c h : ℕ) → (1 ≤ disk.heads) × (disk.heads ≤ 2) → HasTrack disk c h → track_start disk c h + disk.words_per_track ≤ disk.cylinders * disk.heads * disk.words_per_track
track_inside disk c h one has =
    let less = last_number disk.heads disk.cylinders c h one has.0 has.1 in
    let more : suc (c * disk.heads + h) * disk.words_per_track ≤ disk.cylinders * disk.heads * disk.words_per_track = mul-le-mul_right disk.words_per_track (omega (arith, less)) in
    omega (arith, more)

one_track : (word start words count : ℕ) → start + words ≤ count → take words (drop start (replicate count word)) ≡ replicate words word
one_track word start words count le =
    ap (λ (row : List ℕ). take words row) (drop-replicate start count word) ∙ take-replicate words (count - start) word (omega arith)

blank_first : (image : ImdImage) → IsDisk (blank_disk (cylinder_count image.tracks) (head_count image.tracks) (words_at image.rate) image.rate)
    → (least : ℕ) → HasFirst least image (blank_disk (cylinder_count image.tracks) (head_count image.tracks) (words_at image.rate) image.rate) 0
blank_first image valid least =
    let disk = blank_disk (cylinder_count image.tracks) (head_count image.tracks) (words_at image.rate) image.rate in
    record {
      shape = record { valid = valid; protected = refl; cylinders = refl; heads = refl; rate = refl; words_per_track = refl };
      made = λ i d lt. absurd (omega arith);
      others = λ c h has none. one_track 0 (track_start disk c h) disk.words_per_track (disk.cylinders * disk.heads * disk.words_per_track) (track_inside disk c h valid.heads has);
    }

pub begun : (least : ℕ) (image : ImdImage) (disk : Disk) → disk ≡ blank_disk (cylinder_count image.tracks) (head_count image.tracks) (words_at image.rate) image.rate → IsDisk disk → HasFirst least image disk 0
begun least image disk is valid = subst (λ (d : Disk). IsDisk d → HasFirst least image d 0) (sym is) (λ is_disk. blank_first image is_disk least) valid

pub whole_track : (count : ℕ) (all words : List ℕ) → length words ≡ count → take 0 (take count all) ++ (words ++ drop (0 + length words) (take count all)) ≡ words
whole_track count all words len =
    ap (λ (rest : List ℕ). words ++ rest) (drop_all (0 + length words) (take count all) (omega (arith, length-take count all))) ∙ append-nil words

-- ---- the first tracks

pub has_track : (image : ImdImage) (disk : Disk) (i : ℕ) (d : ImdTrack) → IsImdImage image → HasShape image disk → i < length image.tracks → HasTrack disk (get_or image.tracks i d).c (get_or image.tracks i d).h
has_track image disk i d valid shape lt =
    let c_in = cylinder_in image.tracks i d lt in
    let h_in = head_in image.tracks i d lt (valid.tracks i d lt).head in
    let cylinders = shape.cylinders in
    let heads = shape.heads in
    (omega (arith, c_in, cylinders), omega (arith, h_in, heads))

is_roomy : (least : ℕ) (rate : Rate) (track : ImdTrack) (words : List ℕ) → IsMadeTrack least rate track words → IsRoomy least rate track
is_roomy least rate track words (inl none) = inl none.0
is_roomy least rate track words (inr some) = inr (some.1, some.2)

pub next_first : (least : ℕ) (image : ImdImage) (disk after : Disk) (i : ℕ) (d : ImdTrack) (words : List ℕ) → IsImdImage image → i < length image.tracks → HasFirst least image disk i
    → IsWithTrack disk (get_or image.tracks i d).c (get_or image.tracks i d).h words after → IsMadeTrack least image.rate (get_or image.tracks i d) words → HasFirst least image after (i + 1)
next_first least image disk after i d words valid lt first with_it made =
    let tracks = image.tracks in
    let this = get_or tracks i d in
    record {
      shape = record {
        valid = with_it.valid;
        protected = with_it.protected ∙ first.shape.protected;
        cylinders = with_it.cylinders ∙ first.shape.cylinders;
        heads = with_it.heads ∙ first.shape.heads;
        rate = with_it.rate ∙ first.shape.rate;
        words_per_track = with_it.words_per_track ∙ first.shape.words_per_track;
      };
      made = λ k e less. elim (cases_lt k i) [
        | inl before ↦ (
            let in_list : k < length tracks = omega arith in
            let has = has_track image disk k e valid first.shape in_list in
            let same_d : get_or tracks i e ≡ this = get_or_default tracks i e d lt in
            let apart = subst (λ (t : ImdTrack). (get_or tracks k e).c ≡ t.c → (get_or tracks k e).h ≡ t.h → ⊥) same_d (valid.apart k i e before lt) in
            let kept = with_it.others (get_or tracks k e).c (get_or tracks k e).h has apart in
            subst (λ (ws : List ℕ). IsMadeTrack least image.rate (get_or tracks k e) ws) (sym kept) (first.made k e before))
        | inr past ↦ (
            let at : i ≡ k = omega arith in
            let same : this ≡ get_or tracks k e = get_or_default tracks i d e lt ∙ ap (λ (n : ℕ). get_or tracks n e) at in
            let here = subst (λ (ws : List ℕ). IsMadeTrack least image.rate this ws) (sym with_it.has) made in
            subst (λ (t : ImdTrack). IsMadeTrack least image.rate t (track_of after t.c t.h)) same here)
      ];
      others = λ c h has none.
          let cylinders = with_it.cylinders in
          let heads = with_it.heads in
          let c_has = has.0 in
          let h_has = has.1 in
          let had : HasTrack disk c h = (omega (arith, cylinders, c_has), omega (arith, heads, h_has)) in
          with_it.others c h had (λ same_c same_h. none i d (omega arith) (sym same_c, sym same_h))
          ∙ first.others c h had (λ k e less at. none k e (omega arith) at);
    }

pub failed_track : (least : ℕ) (image : ImdImage) (disk new : Disk) (i : ℕ) (d : ImdTrack) (error : ImdError) → i < length image.tracks → HasFirst least image disk i
    → MakesTrack least image.rate (get_or image.tracks i d) (Err error) → PutsTrack least image i new (Err error)
failed_track least image disk new i d NoMemory lt first failed = tt
failed_track least image disk new i d (Unfit c h) lt first failed =
    let tracks = image.tracks in
    record {
      there = lt;
      place = λ e. let same : get_or tracks i d ≡ get_or tracks i e = get_or_default tracks i d e lt in subst (λ (t : ImdTrack). (t.c ≡ c) × (t.h ≡ h)) same (sym failed.0, sym failed.1);
      crowded = λ e. let same : get_or tracks i d ≡ get_or tracks i e = get_or_default tracks i d e lt in subst (λ (t : ImdTrack). IsCrowded least image.rate t) same failed.2;
      roomy_before = λ k e less. is_roomy least image.rate (get_or tracks k e) (track_of disk (get_or tracks k e).c (get_or tracks k e).h) (first.made k e less);
    }
