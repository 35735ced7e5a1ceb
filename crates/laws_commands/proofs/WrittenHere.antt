-- A whole window, written over a track that has some first words of it.
use Rattle.std.proofs.Common.{arith, ◌≡◌, ◌∙◌, ◌+◌, ◌-◌, ◌<◌, ◌≤◌, ℕ, List, take, length, get_or, sym, ap, inl, inr, ◌≢◌, ◌↔◌, Bool, [], ◌∷◌, ◌++◌, subst, Option, Some, Result, IsOk}
use Rattle.laws_commands.proofs.Common.{cases_lt, ext_get_or, length-take, with_items, length-with_items, with_items_before, with_items_at, with_items_behind, Chrn, Code, Disk, HasTrack, track_of, bytes_from, IsFaultless, IsAddressAt, content_size, with_window, window_word, cut_of, IsTidy, Change, Written, window_of, IsChange, Entry, IsOnMap, IsRegularDisk, KeepsTracks, change_keeps_tracks, change_keeps_address, with_track_keeps, alike_tracks, met_track, key_cylinder, one_address, StationState, bay_of, met, ChangesDisk, Reaches, WritesDrive, ChangesAlone, written_from}
use Rattle.sector_map.specs.ChangedDisks.{entry_of}

-- a track that has the first k words of a window, and that also has the whole window
module _ (track mid words after : List ℕ) (start k : ℕ) (some : after ≡ with_items track start (take k words)) (most : k ≤ length words) (inside : start + k ≤ length track) (all : after ≡ with_items mid start (take (length words) words)) (fits : start + length words ≤ length mid) where
  long_k : length (take k words) ≡ k
  long_k = omega (arith, length-take k words)

  long_all : length (take (length words) words) ≡ length words
  long_all = omega (arith, length-take (length words) words)

  long_after : length after ≡ length track
  long_after = ap length some ∙ length-with_items track start (take k words) (omega (arith, long_k))

  long_mid : length after ≡ length mid
  long_mid = ap length all ∙ length-with_items mid start (take (length words) words) (omega (arith, long_all))

  fits_track : start + length (take (length words) words) ≤ length track
  fits_track = omega (arith, long_all, long_after, long_mid)

  fits_k : start + length (take k words) ≤ length track
  fits_k = omega (arith, long_k)

  fits_mid : start + length (take (length words) words) ≤ length mid
  fits_mid = omega (arith, long_all)

  word_is : (i : ℕ) → get_or after i 0 ≡ get_or (with_items track start (take (length words) words)) i 0
  word_is i = elim (cases_lt i start) [
    | inl before ↦
        ap (λ (row : List ℕ). get_or row i 0) some
        ∙ with_items_before track start (take k words) fits_k i before
        ∙ sym (with_items_before track start (take (length words) words) fits_track i before)
    | inr from ↦ elim (cases_lt i (start + length words)) [
      | inl within ↦
          let place : i ≡ start + (i - start) = omega arith in
          let index : i - start < length (take (length words) words) = omega (arith, long_all) in
          ap (λ (row : List ℕ). get_or row i 0) all
          ∙ with_items_at mid start (take (length words) words) fits_mid i (i - start) place index
          ∙ sym (with_items_at track start (take (length words) words) fits_track i (i - start) place index)
      | inr behind ↦
          ap (λ (row : List ℕ). get_or row i 0) some
          ∙ with_items_behind track start (take k words) fits_k i (omega (arith, long_k))
          ∙ sym (with_items_behind track start (take (length words) words) fits_track i (omega (arith, long_all)))
    ]
  ]

  pub whole_is : after ≡ with_items track start (take (length words) words)
  whole_is = ext_get_or 0 after (with_items track start (take (length words) words)) (long_after ∙ sym (length-with_items track start (take (length words) words) fits_track)) (λ i below. word_is i)

-- ---- A write to a regular disk, behind the only address field of its key. If it is Tidy there, the track then has
-- the whole window.

-- ---- the last change

last_change : (written : Written) (disk : Disk) (earlier : List Change) (last : Change) (after : Disk)
    → ChangesDisk written disk (earlier ++ last ∷ []) after → (mid : Disk) × IsChange written mid last after
last_change written disk [] last after changes = (disk, subst (λ (d : Disk). IsChange written disk last d) (sym changes.2) changes.1)
last_change written disk (change ∷ earlier) last after changes = last_change written changes.0 earlier last after changes.2

pub reaches_in : (written : Written) (before after : Option Disk) (disk next : Disk) (changes : List Change) → before ≡ Some disk → after ≡ Some next
    → Reaches written before changes after → ChangesDisk written disk changes next
reaches_in written before after disk next changes e f reach = grind arith

-- ---- the write

-- what such a write did to the disk
pub record WritesHere (bay : ℕ) (disk : Disk) (key : Chrn) (p address : ℕ) (deleted : Bool) (old new : StationState) : Type 0 where
  pub next : Disk
  pub medium : (bay_of new bay).medium ≡ Some next
  pub keeps : KeepsTracks disk key.c key.h next
  pub regular : IsRegularDisk next
  pub others : (entry : Entry) → entry.key ≢ key → IsOnMap disk entry ↔ IsOnMap next entry
  pub entry : IsOnMap next (entry_of (written_from old key address deleted) p)
  pub window : track_of next key.c key.h ≡ with_window (track_of disk key.c key.h) p deleted (bytes_from old.memory address (content_size key.n))

module _ (bay : ℕ) (key : Chrn) (address : ℕ) (deleted : Bool) (disk : Disk) (regular : IsRegularDisk disk) (has : HasTrack disk key.c key.h) (p : ℕ) (field : IsAddressAt (track_of disk key.c key.h) p key) (old new : StationState) (neat : IsTidy (track_of disk key.c key.h) p deleted (bytes_from old.memory address (content_size key.n))) (called : Result (Unit {0}) Code) (drive : WritesDrive (written_from old key address deleted) bay old called new) (ok : IsOk called) (faultless : IsFaultless bay old.counters new.counters) (medium : (bay_of old bay).medium ≡ Some disk) (rate : (bay_of old bay).rate ≡ disk.rate) where
  abbrev content : List ℕ
  content = bytes_from old.memory address (content_size key.n)

  abbrev written : Written
  written = written_from old key address deleted

  met_is : met (bay_of old bay) key.c key.h ≡ track_of disk key.c key.h
  met_is = met_track (bay_of old bay).medium (bay_of old bay).rate key.c key.h disk (record { is_in = medium; has = has; same_rate = sym rate })

  alone : ChangesAlone written bay p disk old called new
  alone =
      let here = subst (λ track. IsAddressAt track p key) (sym met_is) field in
      let tidy = subst (λ track. IsTidy track p deleted content) (sym met_is) neat in
      (drive.regular disk medium regular).one p here (inl tidy)

  entry_is : IsOnMap alone.after (entry_of written p)
  entry_is = alone.entry ok (inl (omega (arith, faultless.0), faultless.1))

  keeps_others : KeepsTracks disk key.c key.h alone.after
  keeps_others = with_track_keeps disk alone.after key.c key.h _ alone.cut

  has_after : HasTrack alone.after key.c key.h
  has_after = (alike_tracks disk alone.after key.c key.h keeps_others.alike).0 has

  -- the track is a cut of the track of `mid`, at this cylinder and place, with this many words
  abbrev HasCut : Disk → ℕ → ℕ → ℕ → Type 0
  HasCut mid b q k =
      (track_of alone.after b key.h ≡ cut_of (track_of mid b key.h) q k (window_of written)) × (window_word q + k ≤ length (track_of mid b key.h))

  -- the last change wrote the whole window, at this address field
  last_whole : (mid : Disk) × HasCut mid key.c p (length (window_of written))
  last_whole =
      let last = (drive.done ok).last faultless in
      let change = last.1 in
      let reach = reaches_in written _ _ disk alone.after drive.changes medium alone.medium drive.reach in
      let at_end = subst (λ (row : List Change). ChangesDisk written disk row alone.after) last.2 reach in
      let ends = last_change written disk last.0 change alone.after at_end in
      let mid = ends.0 in
      let is = ends.1 in
      let there = change_keeps_address written mid change alone.after is in
      let has_last = (alike_tracks mid alone.after change.cylinder key.h (change_keeps_tracks written mid change alone.after is).alike).0 is.track in
      let cylinder = (key_cylinder alone.after change.cylinder key.h change.place key alone.regular has_last there).0 in
      let here = subst (λ (b : ℕ). IsAddressAt (track_of alone.after b key.h) change.place key) (sym cylinder) there in
      let place = one_address alone.after key.c key.h change.place p key alone.regular has_after here entry_is.address in
      let cut : HasCut mid change.cylinder change.place change.words = (is.cut.has, is.cuttable.inside) in
      let at_cylinder = subst (λ (b : ℕ). HasCut mid b change.place change.words) (sym cylinder) cut in
      let at_place = subst (λ (q : ℕ). HasCut mid key.c q change.words) place at_cylinder in
      (mid, subst (λ (k : ℕ). HasCut mid key.c p k) last.3 at_place)

  -- the track therefore has the whole window
  window_stands : track_of alone.after key.c key.h ≡ with_window (track_of disk key.c key.h) p deleted content
  window_stands =
      whole_is (track_of disk key.c key.h) (track_of last_whole.0 key.c key.h) (window_of written) (track_of alone.after key.c key.h) (window_word p) alone.words
      alone.cut.has alone.cuttable.most alone.cuttable.inside last_whole.1.0 last_whole.1.1

  pub writes_here : WritesHere bay disk key p address deleted old new
  writes_here = record {
    next = alone.after;
    medium = alone.medium;
    keeps = keeps_others;
    regular = alone.regular;
    others = alone.others;
    entry = entry_is;
    window = window_stands;
  }
