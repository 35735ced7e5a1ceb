-- Words written over a part of one track, and what each track then is.
use Rattle.std.proofs.Common.{◌≡◌, ℕ, ◌+◌, ◌-◌, ◌*◌, ◌^◌, ◌<◌, ◌≤◌, ◌++◌, List, length, take, drop, get_or, refl, sym, subst, ap, ◌∙◌, arith, inl, inr}
use Rattle.raw_image.proofs.Common.{cases_lt, ext_get_or, get_or_append_left, get_or-append-add, get_or-take, get_or-drop, length-append, length-take, length-drop, drop-drop, Header, disk_of, Disk, IsDisk, HasTrack, IsWithTrack, track_start, track_of}
use borrow.Rule.Slice.PartMut.{put_mid}
use Rattle.flop_base.specs.Lists.{with_items}
use Rattle.raw_image.proofs.Tracks.{apart, rows_apart}

module _ (list : List ℕ) (at : ℕ) (words : List ℕ) (fits : at + length words ≤ length list) where
  before : length (take at list) ≡ at
  before = omega (arith, length-take at list)

  pub length-with_items : length (with_items list at words) ≡ length list
  unfolding with_items
  length-with_items =
      omega (arith, before, length-append (take at list) (words ++ drop (at + length words) list), length-append words (drop (at + length words) list), length-drop (at + length words) list)

  pub with_items_before : (k : ℕ) → k < at → get_or (with_items list at words) k 0 ≡ get_or list k 0
  unfolding with_items
  with_items_before k h =
      let within : k < length (take at list) = omega (arith, before) in
      get_or_append_left (take at list) (words ++ drop (at + length words) list) 0 k within ∙ get_or-take at list k 0 h

  pub with_items_at : (k i : ℕ) → k ≡ at + i → i < length words → get_or (with_items list at words) k 0 ≡ get_or words i 0
  unfolding with_items
  with_items_at k i e h =
      let rest = drop (at + length words) list in
      let place : k ≡ length (take at list) + i = omega (arith, before) in
      ap (λ j. get_or (take at list ++ (words ++ rest)) j 0) place
      ∙ get_or-append-add (take at list) (words ++ rest) i 0
      ∙ get_or_append_left words rest 0 i h

  pub with_items_behind : (k : ℕ) → at + length words ≤ k → get_or (with_items list at words) k 0 ≡ get_or list k 0
  unfolding with_items
  with_items_behind k h =
      let rest = drop (at + length words) list in
      let i = k - (at + length words) in
      let place : k ≡ length (take at list) + (length words + i) = omega (arith, before) in
      let back : at + length words + i ≡ k = omega arith in
      ap (λ j. get_or (take at list ++ (words ++ rest)) j 0) place
      ∙ get_or-append-add (take at list) (words ++ rest) (length words + i) 0
      ∙ get_or-append-add words rest i 0
      ∙ get_or-drop (at + length words) list i 0
      ∙ ap (λ j. get_or list j 0) back

  -- all items are words of 16 bits if the items of both lists are
  pub with_items_fits : ((k : ℕ) → get_or list k 0 < 2 ^ 16) → ((k : ℕ) → get_or words k 0 < 2 ^ 16) → (k : ℕ) → get_or (with_items list at words) k 0 < 2 ^ 16
  with_items_fits old new k =
      let Fits : ℕ → Type 0 = λ w. w < 2 ^ 16 in
      elim (cases_lt k at) [
        | inl lower ↦ subst Fits (sym (with_items_before k lower)) (old k)
        | inr upper ↦ elim (cases_lt k (at + length words)) [
          | inl inner ↦ subst Fits (sym (with_items_at k (k - at) (omega arith) (omega arith))) (new (k - at))
          | inr beyond ↦ subst Fits (sym (with_items_behind k beyond)) (old k)
        ]
      ]

-- an element of a part of a list
element : (from w k : ℕ) (list : List ℕ) → k < w → get_or (take w (drop from list)) k 0 ≡ get_or list (from + k) 0
element from w k list h = get_or-take w (drop from list) k 0 h ∙ get_or-drop from list k 0

-- two lists have the same elements in a part
same_part : (xs ys : List ℕ) (from w : ℕ) → length xs ≡ length ys → ((k : ℕ) → from ≤ k → k < from + w → get_or xs k 0 ≡ get_or ys k 0) → take w (drop from xs) ≡ take w (drop from ys)
same_part xs ys from w lengths same =
    ext_get_or 0 _ _
    (omega (arith, length-take w (drop from xs), length-take w (drop from ys), length-drop from xs, length-drop from ys))
    (λ k h.
    let below : k < w = omega (arith, length-take w (drop from xs)) in
    element from w k xs below ∙ same (from + k) (omega arith) (omega arith) ∙ sym (element from w k ys below))

-- what is replaced lies within one part of the list
module _ (list : List ℕ) (from w start : ℕ) (words : List ℕ) (within : start + length words ≤ w) (inside : from + w ≤ length list) where
  part_long : length (take w (drop from list)) ≡ w
  part_long = omega (arith, length-take w (drop from list), length-drop from list)

  fits : from + start + length words ≤ length list
  fits = omega arith

  after_long : length (take w (drop from (with_items list (from + start) words))) ≡ w
  after_long =
      omega (arith, length-take w (drop from (with_items list (from + start) words)), length-drop from (with_items list (from + start) words), length-with_items list (from + start) words fits)

  element_of : (k : ℕ) → k < w → get_or (with_items list (from + start) words) (from + k) 0 ≡ get_or (with_items (take w (drop from list)) start words) k 0
  element_of k h =
      let room : start + length words ≤ length (take w (drop from list)) = omega (arith, part_long) in
      elim (cases_lt k start) [
        | inl lower ↦
            with_items_before list (from + start) words fits (from + k) (omega arith)
            ∙ sym (element from w k list h)
            ∙ sym (with_items_before (take w (drop from list)) start words room k lower)
        | inr upper ↦ elim (cases_lt k (start + length words)) [
          | inl inner ↦
              with_items_at list (from + start) words fits (from + k) (k - start) (omega arith) (omega arith)
              ∙ sym (with_items_at (take w (drop from list)) start words room k (k - start) (omega arith) (omega arith))
          | inr beyond ↦
              with_items_behind list (from + start) words fits (from + k) (omega arith)
              ∙ sym (element from w k list h)
              ∙ sym (with_items_behind (take w (drop from list)) start words room k beyond)
        ]
      ]

  pub part_of-with_items : take w (drop from (with_items list (from + start) words)) ≡ with_items (take w (drop from list)) start words
  part_of-with_items =
      let room : start + length words ≤ length (take w (drop from list)) = omega (arith, part_long) in
      ext_get_or 0 _ _
      (omega (arith, after_long, part_long, length-with_items (take w (drop from list)) start words room))
      (λ k h.
      let below : k < w = omega (arith, after_long) in
      element from w k (with_items list (from + start) words) below ∙ element_of k below)

-- the medium with words of one track replaced
abbrev pub with_splice : Disk → ℕ → ℕ → ℕ → List ℕ → Disk
with_splice d c h start words = record d { words = with_items d.words (track_start d c h + start) words }

module _ (d : Disk) (c h start : ℕ) (words : List ℕ) (valid : IsDisk d) (each : (k : ℕ) → get_or words k 0 < 2 ^ 16) (has : HasTrack d c h) (within : start + length words ≤ d.words_per_track) (inside : track_start d c h + d.words_per_track ≤ length d.words) where
  disk_fits : track_start d c h + start + length words ≤ length d.words
  disk_fits = omega arith

  others_kept : (b g : ℕ) → HasTrack d b g → (b ≡ c → g ≡ h → ⊥) → track_of (with_splice d c h start words) b g ≡ track_of d b g
  others_kept b g had other =
      let w = d.words_per_track in
      let from = track_start d b g in
      let at = track_start d c h + start in
      elim (apart b g c h d.heads had.1 has.1 other) [
        | inl before ↦
            let far : from + w ≤ track_start d c h = rows_apart (b * d.heads + g) (c * d.heads + h) w before in
            same_part (with_items d.words at words) d.words from w (length-with_items d.words at words disk_fits)
            (λ k low high. with_items_before d.words at words disk_fits k (omega arith))
        | inr after ↦
            let far : track_start d c h + w ≤ from = rows_apart (c * d.heads + h) (b * d.heads + g) w after in
            same_part (with_items d.words at words) d.words from w (length-with_items d.words at words disk_fits)
            (λ k low high. with_items_behind d.words at words disk_fits k (omega arith))
      ]

  pub with_splice_is : IsWithTrack d c h (with_items (track_of d c h) start words) (with_splice d c h start words)
  with_splice_is = record {
    valid = record {
      cylinders = valid.cylinders;
      heads = valid.heads;
      words_per_track = valid.words_per_track;
      count = length-with_items d.words (track_start d c h + start) words disk_fits ∙ valid.count;
      each = with_items_fits d.words (track_start d c h + start) words disk_fits valid.each each;
    };
    protected = refl;
    cylinders = refl;
    heads = refl;
    rate = refl;
    words_per_track = refl;
    has = part_of-with_items d.words (track_start d c h) d.words_per_track start words within inside;
    others = others_kept;
  }

-- what a part of a list was written over with
pub put_mid-with_items : (list part words : List ℕ) (at k : ℕ) → part ≡ words → k ≡ length words → put_mid at k list part ≡ with_items list at words
unfolding with_items
put_mid-with_items list part words at k is long =
    ap (λ row. take at list ++ (row ++ drop k (drop at list))) is
    ∙ ap (λ row. take at list ++ (words ++ row)) (drop-drop k at list)
    ∙ ap (λ n. take at list ++ (words ++ drop (at + n) list)) long

-- a medium in memory whose words became these
pub becomes_with : (d : Disk) (shape : Header) (list after : List ℕ) (c h start from : ℕ) (words : List ℕ) → disk_of shape list ≡ d → IsDisk (disk_of shape list) → ((k : ℕ) → get_or words k 0 < 2 ^ 16) → HasTrack d c h → start + length words ≤ d.words_per_track → from ≡ track_start d c h → from + d.words_per_track ≤ length d.words → after ≡ with_items list (from + start) words → IsWithTrack d c h (take start (track_of d c h) ++ (words ++ drop (start + length words) (track_of d c h))) (disk_of shape after)
unfolding with_items
becomes_with d shape list after c h start from words view valid each has within at inside is =
    let inside : track_start d c h + d.words_per_track ≤ length d.words = subst (λ n. n + d.words_per_track ≤ length d.words) at inside in
    let same : with_splice d c h start words ≡ disk_of shape after =
    sym (ap (λ (e : Disk). with_splice e c h start words) view)
    ∙ ap (λ (e : Disk). disk_of shape (with_items list (track_start e c h + start) words)) view
    ∙ ap (λ n. disk_of shape (with_items list (n + start) words)) (sym at)
    ∙ ap (disk_of shape) (sym is) in
    let With : Disk → Type 0 = λ e. IsWithTrack d c h (with_items (track_of d c h) start words) e in
    subst With same (with_splice_is d c h start words (subst IsDisk view valid) each has within inside)

-- how long a list is after a part of it was written over
pub put_mid-long : (list part words : List ℕ) (at k : ℕ) → part ≡ words → k ≡ length words → at + length words ≤ length list → length (put_mid at k list part) ≡ length list
put_mid-long list part words at k is long fits = ap length (put_mid-with_items list part words at k is long) ∙ length-with_items list at words fits
