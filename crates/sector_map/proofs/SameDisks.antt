-- Two disks of one shape that have the same tracks are the same.
use Rattle.std.proofs.Common.{◌≡◌, ℕ, ◌+◌, ◌*◌, ◌/◌, ◌%◌, ◌<◌, Bool, List, length, drop, get_or, sym, ap, subst, ◌∙◌, arith}
use Rattle.sector_map.proofs.Common.{get_or-take, get_or-drop, ext_get_or, div-add-mod', div_below, mod_below, Rate, Disk, IsDisk, HasTrack, track_of, track_start, KeepsTracks}

-- a word of a track, found among all words
word_of_track : (disk : Disk) (c h i : ℕ) → i < disk.words_per_track → get_or (track_of disk c h) i 0 ≡ get_or disk.words (track_start disk c h + i) 0
word_of_track disk c h i within =
    get_or-take disk.words_per_track (drop (track_start disk c h) disk.words) i 0 within ∙ get_or-drop (track_start disk c h) disk.words i 0

-- the track and the place of one of all words
record IsAt (disk : Disk) (k : ℕ) : Type 0 where
  pub c : ℕ
  pub h : ℕ
  pub i : ℕ
  pub has : HasTrack disk c h
  pub within : i < disk.words_per_track
  pub is : k ≡ track_start disk c h + i

place_of : (disk : Disk) (k : ℕ) → IsDisk disk → k < length disk.words → IsAt disk k
place_of disk k valid below =
    let w = disk.words_per_track in
    let heads = disk.heads in
    let some_words = valid.words_per_track.0 in
    let some_heads = valid.heads.0 in
    let count = valid.count in
    let all : k < disk.cylinders * heads * w = omega arith in
    let row : k / w < disk.cylinders * heads = div_below k w (disk.cylinders * heads) (omega arith) all in
    let rows : k / w ≡ k / w / heads * heads + k / w % heads = sym (div-add-mod' (k / w) heads) in
    record {
      c = k / w / heads;
      h = k / w % heads;
      i = k % w;
      has = (div_below (k / w) heads disk.cylinders (omega arith) row, mod_below (k / w) heads (omega arith));
      within = mod_below k w (omega arith);
      is = sym (div-add-mod' k w) ∙ ap (λ r. r * w + k % w) rows;
    }

-- a track begins at the same place on disks of the same shape
same_start : (a b : Disk) (c h : ℕ) → b.heads ≡ a.heads → b.words_per_track ≡ a.words_per_track → track_start b c h ≡ track_start a c h
same_start a b c h e f = ap (λ n. (c * n + h) * b.words_per_track) e ∙ ap (λ n. (c * a.heads + h) * n) f

same_words : (a b : Disk) → IsDisk a → IsDisk b → b.cylinders ≡ a.cylinders → b.heads ≡ a.heads → b.words_per_track ≡ a.words_per_track → ((c h : ℕ) → HasTrack a c h → track_of b c h ≡ track_of a c h) → b.words ≡ a.words
same_words a b first second e f g same =
    let long : length b.words ≡ length a.words = second.count ∙ ap (λ n. n * b.heads * b.words_per_track) e ∙ ap (λ n. a.cylinders * n * b.words_per_track) f ∙ ap (λ n. a.cylinders * a.heads * n) g ∙ sym first.count in
    ext_get_or 0 b.words a.words long
    (λ k below.
    let at = place_of a k first (omega arith) in
    let within : at.i < b.words_per_track = subst (λ n. at.i < n) (sym g) at.within in
    let there : k ≡ track_start b at.c at.h + at.i = at.is ∙ ap (λ s. s + at.i) (sym (same_start a b at.c at.h f g)) in
    ap (λ j. get_or b.words j 0) there
    ∙ sym (word_of_track b at.c at.h at.i within)
    ∙ ap (λ track. get_or track at.i 0) (same at.c at.h at.has)
    ∙ word_of_track a at.c at.h at.i at.within
    ∙ ap (λ j. get_or a.words j 0) (sym at.is))

abbrev disk_from : Bool → ℕ → ℕ → Rate → ℕ → List ℕ → Disk
disk_from protected cylinders heads rate words_per_track words = record {
  protected = protected;
  cylinders = cylinders;
  heads = heads;
  rate = rate;
  words_per_track = words_per_track;
  words = words;
}

pub same_disk : (disk : Disk) (c h : ℕ) (after : Disk) → IsDisk disk → KeepsTracks disk c h after → ((b g : ℕ) → HasTrack disk b g → track_of after b g ≡ track_of disk b g) → after ≡ disk
same_disk disk c h after valid keeps same =
    ap (λ x. disk_from x after.cylinders after.heads after.rate after.words_per_track after.words) keeps.alike.protected
    ∙ ap (λ x. disk_from disk.protected x after.heads after.rate after.words_per_track after.words) keeps.alike.cylinders
    ∙ ap (λ x. disk_from disk.protected disk.cylinders x after.rate after.words_per_track after.words) keeps.alike.heads
    ∙ ap (λ x. disk_from disk.protected disk.cylinders disk.heads x after.words_per_track after.words) keeps.alike.rate
    ∙ ap (λ x. disk_from disk.protected disk.cylinders disk.heads disk.rate x after.words) keeps.alike.words_per_track
    ∙ ap (λ x. disk_from disk.protected disk.cylinders disk.heads disk.rate disk.words_per_track x) (same_words disk after valid keeps.alike.valid keeps.alike.cylinders keeps.alike.heads keeps.alike.words_per_track same)
