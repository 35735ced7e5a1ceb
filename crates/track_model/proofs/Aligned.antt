-- Tracks on which each data field stands word by word where its window does: no cut of a window makes a new address
-- mark.
use Rattle.std.proofs.Common.{◌≡◌, ◌≢◌, ℕ, ◌+◌, ◌-◌, ◌*◌, ◌<◌, ◌≤◌, Bool, true, false, List, [], ◌∷◌, ◌++◌, length, get_or, take, refl, sym, ap, subst, ◌∙◌, ◌⊎◌, arith, inl, inr}
use Rattle.track_model.proofs.Common.{cases_eq, cases_lt, cases_order, length-take, Chrn, crc, byte_at, data_byte, IsAddressMark, after_marks, IsAddressAt, content_size, check_bytes, window, window_word, window_words, cut_of, IsFieldFor, IsTidy, KeepsOthers}
use Rattle.track_model.specs.Cells.{number}
use Rattle.track_model.proofs.Unique.{one_key}
use Rattle.track_model.proofs.Frames.{same_back, same_address_mark}
use Rattle.track_model.proofs.Places.{cells_at-word}
use Rattle.track_model.proofs.Splices.{same_before, same_behind}
use Rattle.track_model.proofs.Written.{length-window}
use Rattle.track_model.proofs.WindowMarks.{marks_in, byte_behind}
use Rattle.track_model.proofs.Recorded.{AreWords, AreSparse, IsRunAtWord, run_at_word, byte_at_word}
use Rattle.track_model.proofs.Seams.{IsAlignedAt, IsSeam, IsAligned, unstopped, sparse}
use Rattle.track_model.proofs.WindowWords.{moved_word, same_bit, marked_words, put_before, put_at, put_behind, put_words}
use Rattle.track_model.proofs.Kept.{cut_kept}

same_byte : (track after : List ℕ) (i j : ℕ) → get_or after j 0 ≡ get_or track i 0 → byte_at after (16 * j) ≡ byte_at track (16 * i)
same_byte track after i j same =
    let there : 16 * i ≡ 16 * i = refl in
    let here : 16 * j ≡ 16 * j = refl in
    byte_at_word after (16 * j) j here ∙ ap (λ w. byte_at (w ∷ []) 0) same ∙ sym (byte_at_word track (16 * i) i there)

-- the byte of a data field is that of no mark A1 and of no address mark
mark_byte : byte_at (0x4489 ∷ []) 0 ≡ 0xA1
unfolding number
mark_byte = refl

no_mark_byte : (deleted : Bool) → data_byte deleted ≡ 0xA1 → ⊥
no_mark_byte false e = omega (arith, e)
no_mark_byte true e = omega (arith, e)

no_fourth : (track : List ℕ) (start : ℕ) → IsAlignedAt track start → get_or track (start + 15) 0 ≡ 0x4489 → ⊥
no_fourth track start aligned e =
    let place : 16 * (start + 15) ≡ 16 * (start + 15) = refl in
    no_mark_byte aligned.deleted
    (sym aligned.byte ∙ byte_at_word track (16 * (start + 15)) (start + 15) place ∙ ap (λ w. byte_at (w ∷ []) 0) e ∙ mark_byte)

no_address_byte : (deleted : Bool) → data_byte deleted ≡ 0xFE → ⊥
no_address_byte false e = omega (arith, e)
no_address_byte true e = omega (arith, e)

-- ---- the words of a window

-- a mark in these words is one of three words
window_mark : (deleted : Bool) (content : List ℕ) (j : ℕ) → j < length (window deleted content) → get_or (window deleted content) j 0 ≡ 0x4489 → (12 ≤ j) × (j ≤ 14)
window_mark deleted content j h e =
    let words = window deleted content in
    let check = check_bytes (crc (after_marks (data_byte deleted ∷ content))) in
    let place : 16 * j ≡ 16 * j = refl in
    let found = marks_in deleted (content ++ check) (16 * j) (omega arith) (cells_at-word words (16 * j) j place (omega (arith, e)) ∙ e) in
    let low = found.0 in
    let high = found.1 in
    (omega arith, omega arith)

-- behind these three words stands the byte of a data field
window_byte : (deleted : Bool) (content track : List ℕ) (i : ℕ) → get_or track i 0 ≡ get_or (window deleted content) 15 0 → byte_at track (16 * i) ≡ data_byte deleted
window_byte deleted content track i same =
    let words = window deleted content in
    let check = check_bytes (crc (after_marks (data_byte deleted ∷ content))) in
    same_byte words track 15 i same ∙ byte_behind deleted (content ++ check)

-- ---- a cut of a window

module _ (stops : ℕ → ℕ) (track : List ℕ) (p : ℕ) (key : Chrn) (deleted : Bool) (content : List ℕ) (aligned : IsAligned stops track) (field : IsFieldFor track p key content) where
  abbrev here : ℕ
  here = window_word p

  abbrev words : List ℕ
  words = window deleted content

  long : length words ≡ 18 + content_size key.n
  long = let size = field.size in omega (arith, length-window deleted content)

  own_words : AreWords (λ k. ⊥) false words
  own_words = marked_words (data_byte deleted ∷ (content ++ check_bytes (crc (after_marks (data_byte deleted ∷ content)))))

  -- no mark stands in the three words before the window
  none_before : (i : ℕ) → here ≤ i + 3 → i < here → get_or track i 0 ≡ 0x4489 → ⊥
  none_before i low high e =
      let place : 16 * i ≡ 16 * i = refl in
      aligned.spaced.gaps p (16 * i) key field.address (omega arith) (omega arith) (cells_at-word track (16 * i) i place (omega (arith, e)) ∙ e)

  module _ (k : ℕ) (most : k ≤ length words) (inside : here + k ≤ length track) where
    abbrev after : List ℕ
    after = cut_of track p k words

    -- the seams that are left, and one behind the cut
    abbrev Left : ℕ → Type 0
    Left i = (IsSeam stops track i × ((i < here) ⊎ (here + k ≤ i))) ⊎ (i ≡ here + k)

    pub cut_words : AreWords Left false after
    cut_words = put_words track here words k most inside (aligned.fields p key field.address).bit (IsSeam stops track) aligned.words own_words

    -- the word behind a window is the old one
    gap_word : (q : ℕ) (other : Chrn) → IsAddressAt track q other → get_or after (window_word q + window_words other.n) 0 ≡ get_or track (window_word q + window_words other.n) 0
    gap_word q other address =
        let end = window_word q + window_words other.n in
        elim (cases_order q p) [
          | inl e ↦
              let moved = subst (λ m. IsAddressAt track m other) e address in
              let keys = one_key track p other key moved field.address in
              let places : window_word q ≡ here = ap window_word e in
              let sizes : content_size other.n ≡ content_size key.n = ap (λ (it : Chrn). content_size it.n) keys in
              put_behind track here words k most inside end (omega (arith, long))
          | inr (inl before) ↦
              let far = aligned.spaced.spans.apart q p other key address field.address before in
              put_before track here words k most inside end (omega arith)
          | inr (inr behind) ↦
              let far = aligned.spaced.spans.apart p q key other field.address address behind in
              put_behind track here words k most inside end (omega (arith, long))
        ]

    pub gap_byte : (q : ℕ) (other : Chrn) → IsAddressAt track q other → byte_at after (16 * (window_word q + window_words other.n)) ≡ 0x4E
    gap_byte q other address =
        let end = window_word q + window_words other.n in
        same_byte track after end end (gap_word q other address) ∙ aligned.gaps q other address

    was : (i : ℕ) → Left i → IsSeam stops track i ⊎ (i ≡ here + k)
    was i (inl seam) = inl seam.0
    was i (inr e) = inr e

    are_sparse : AreSparse Left after
    are_sparse i one two three bit =
        sparse stops track aligned k p key field.address (omega (arith, long)) after gap_byte i (was i one) (was (i + 1) two) (was (i + 2) three) bit

    -- the place of the window stays aligned
    pub own_aligned : IsAlignedAt after here
    own_aligned =
        let was = aligned.fields p key field.address in
        let bit = sym (same_bit false track after here (λ j e. put_before track here words k most inside j (omega arith))) ∙ was.bit in
        elim (cases_lt 15 k) [
          | inl h ↦
              let byte = window_byte deleted content after (here + 15) (put_at track here words k most inside (here + 15) 15 refl h) in
              record { bit = bit; deleted = deleted; byte = byte }
          | inr h ↦
              let byte = same_byte track after (here + 15) (here + 15) (put_behind track here words k most inside (here + 15) (omega arith)) ∙ was.byte in
              record { bit = bit; deleted = was.deleted; byte = byte }
        ]

    -- a run that meets the words put in is the one in the window's place
    own_place : (q j : ℕ) → IsRunAtWord after q j → here < j + 4 → j < here + k → j ≡ here + 12
    own_place q j run low high =
        elim (cases_lt j here) [
          | inl before ↦
              absurd (none_before j (omega arith) before (sym (put_before track here words k most inside j before) ∙ run.first))
          | inr start ↦
              let i = j - here in
              let place : j ≡ here + i = omega arith in
              let found = window_mark deleted content i (omega arith) (sym (put_at track here words k most inside j i place (omega arith)) ∙ run.first) in
              let first = found.0 in
              let last = found.1 in
              elim (cases_order i 13) [
                | inl e ↦
                    let third : j + 2 ≡ here + 15 = omega arith in
                    absurd (no_fourth after here own_aligned (sym (ap (λ m. get_or after m 0) third) ∙ run.third))
                | inr (inl h) ↦ omega arith
                | inr (inr h) ↦
                    let second : j + 1 ≡ here + 15 = omega arith in
                    absurd (no_fourth after here own_aligned (sym (ap (λ m. get_or after m 0) second) ∙ run.second))
              ]
        ]

    pub old_mark : (q : ℕ) → IsAddressMark after q → IsAddressMark track q
    old_mark q mark =
        let found = run_at_word Left false after cut_words are_sparse q mark.run in
        let j = found.0 in
        let run = found.1 in
        let place = run.place in
        let cut : length (take k words) ≡ k = omega (arith, length-take k words) in
        let fits : here + length (take k words) ≤ length track = omega (arith, cut) in
        elim (cases_lt here (j + 4)) [
          | inr before ↦
              same_address_mark after track q (same_back track after q 64 (same_before track here (take k words) fits q 64 (omega arith))) mark
          | inl low ↦
              elim (cases_lt j (here + k)) [
                | inr behind ↦
                    same_address_mark after track q (same_back track after q 64 (same_behind track here (take k words) fits q 64 (omega (arith, cut)))) mark
                | inl high ↦
                    let own = own_place q j run low high in
                    let byte : q + 48 ≡ 16 * (here + 15) = omega arith in
                    absurd (no_address_byte own_aligned.deleted (sym own_aligned.byte ∙ sym (ap (byte_at after) byte) ∙ mark.mark))
              ]
        ]

  -- each write is Tidy
  pub aligned_tidy : IsTidy track p deleted content
  aligned_tidy k q cuttable mark = old_mark k cuttable.most cuttable.inside q mark

  pub cut_keeps : (k : ℕ) → k ≤ length words → KeepsOthers track (cut_of track p k words) p
  cut_keeps k most = cut_kept track p key deleted content k aligned.spaced field most (inl aligned_tidy)

  pub room : here + length words ≤ length track
  room = let inside = aligned.spaced.spans.inside p key field.address in omega (arith, long)

  -- ---- what a write leaves if it goes at least as far as the one before it at the same place

  module _ (k : ℕ) (most : k ≤ length words) (over : stops p ≤ k) (later : ℕ → ℕ) (others : (q : ℕ) → q ≢ p → later q ≡ stops q) (own : (later p ≡ k) ⊎ ((k ≡ length words) × (later p ≡ 0))) where
    abbrev left : List ℕ
    left = cut_of track p k words

    within : here + k ≤ length track
    within = omega (arith, room)

    kept : KeepsOthers track left p
    kept = cut_keeps k most

    end_seam : (i : ℕ) → i ≡ here + k → IsSeam later left i
    end_seam i e = record {
      place = p;
      key = key;
      address = (kept.addresses p key).0 field.address;
      word = elim own [ inl same ↦ inr (e ∙ ap (λ m. here + m) (sym same)) | inr (all, none) ↦ inl (omega (arith, e, all, long)) ];
    }

    seam_stays : (i : ℕ) → Left k most within i → IsSeam later left i
    seam_stays i (inr e) = end_seam i e
    seam_stays i (inl (seam, outside)) =
        let address = (kept.addresses seam.place seam.key).0 seam.address in
        elim seam.word [
          | inl e ↦ record { place = seam.place; key = seam.key; address = address; word = inl e }
          | inr e ↦
              elim (cases_eq seam.place p) [
                | inl same ↦
                    let there : i ≡ here + stops p = e ∙ ap (λ q. window_word q + stops q) same in
                    elim outside [ inl low ↦ absurd (omega arith) | inr high ↦ end_seam i (omega arith) ]
                | inr other ↦
                    record {
                      place = seam.place;
                      key = seam.key;
                      address = address;
                      word = inr (e ∙ ap (λ m. window_word seam.place + m) (sym (others seam.place other)));
                    }
              ]
        ]

    same_aligned : (start : ℕ) → ((i : ℕ) → start ≤ i + 1 → i ≤ start + 15 → get_or left i 0 ≡ get_or track i 0) → IsAlignedAt track start → IsAlignedAt left start
    same_aligned start same there = record {
      bit = sym (same_bit false track left start (λ j e. same j (omega arith) (omega arith))) ∙ there.bit;
      deleted = there.deleted;
      byte = same_byte track left (start + 15) (start + 15) (same (start + 15) (omega arith) (omega arith)) ∙ there.byte;
    }

    field_stays : (q : ℕ) (other : Chrn) → IsAddressAt left q other → IsAlignedAt left (window_word q)
    field_stays q other address =
        let old = (kept.addresses q other).1 address in
        elim (cases_order q p) [
          | inl e ↦ subst (λ m. IsAlignedAt left (window_word m)) (sym e) (own_aligned k most within)
          | inr (inl h) ↦
              let far = aligned.spaced.spans.apart q p other key old field.address h in
              same_aligned (window_word q) (λ i low high. put_before track here words k most within i (omega arith)) (aligned.fields q other old)
          | inr (inr h) ↦
              let far = aligned.spaced.spans.apart p q key other field.address old h in
              same_aligned (window_word q) (λ i low high. put_behind track here words k most within i (omega (arith, long))) (aligned.fields q other old)
        ]

    own_short : later p ≤ window_words key.n
    own_short = elim own [ inl same ↦ omega (arith, same, long) | inr (all, none) ↦ omega (arith, none) ]

    short_stays : (q : ℕ) (other : Chrn) → IsAddressAt left q other → later q ≤ window_words other.n
    short_stays q other address =
        let old = (kept.addresses q other).1 address in
        elim (cases_eq q p) [
          | inl e ↦
              let keys = one_key track p other key (subst (λ m. IsAddressAt track m other) e old) field.address in
              subst (λ (it : Chrn). later q ≤ window_words it.n) (sym keys) (subst (λ m. later m ≤ window_words key.n) (sym e) own_short)
          | inr h ↦
              let same = others q h in
              let short = aligned.short q other old in omega (arith, same, short)
        ]

    pub cut_aligned : IsAligned later left
    cut_aligned = record {
      spaced = kept.spaced;
      words = λ i h.
          moved_word (Left k most within) (IsSeam later left) false false left left i i refl (inl refl) (seam_stays i) (cut_words k most within i h);
      fields = field_stays;
      gaps = λ q other address. gap_byte k most within q other ((kept.addresses q other).1 address);
      short = short_stays;
    }

-- ---- the whole window

module _ (track : List ℕ) (p : ℕ) (key : Chrn) (deleted : Bool) (content : List ℕ) (aligned : IsAligned unstopped track) (field : IsFieldFor track p key content) where
  all : length (window deleted content) ≤ length (window deleted content)
  all = omega arith

  pub whole_keeps : KeepsOthers track (cut_of track p (length (window deleted content)) (window deleted content)) p
  whole_keeps = cut_keeps unstopped track p key deleted content aligned field (length (window deleted content)) all

  -- if no write stopped on a track, this also holds after a whole window
  pub whole_aligned : IsAligned unstopped (cut_of track p (length (window deleted content)) (window deleted content))
  whole_aligned =
      cut_aligned unstopped track p key deleted content aligned field (length (window deleted content)) all (omega arith) unstopped (λ q h. refl) (inr (refl, refl))
