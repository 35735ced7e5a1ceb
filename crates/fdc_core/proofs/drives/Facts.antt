-- What several lemmas cite: of numbers and truth values.
use Rattle.std.proofs.Common.{◌≡◌, ◌+◌, ◌<◌, ◌≤◌, ◌==◌, ◌++◌, ◌∷◌, ℕ, nat_le, nat_lt, Bool, true, false, List, [], length, length-append, if◌then◌else◌, arith, inl, inr, ◌-◌, ◌&&◌, not, take, drop, slice_set, Some, refl, sym, ◌∙◌, ap, subst}
use Rattle.fdc_core.proofs.Common.{nat_tests, get_or-append, length-set, drop-set-add, ext_get_or, get_or-set_other, get_or_push, get_or-take, length-take, take_all, take-append-drop, cases_lt, Rose, Disk, IsDisk, HasTrack, IsWithTrack, track_of, track_start, length-track_of, DriveState, Writes, can_write, rewritten, with_gate, IsOver, Stands, IsPut, IsPutOpen}
use Rattle.std.specs.Prelude.{IfSome}
use Rattle.std.proofs.Math.Seq.{take-set-lt}
use Rattle.std.proofs.lemmas.Grind.{get_or-set_at}
use Rattle.flop_base.specs.Lists.{with_items}
use Rattle.track_model.proofs.Splices.{length-with_items, with_items_before, with_items_at, with_items_behind}
use Rattle.raw_image.specs.Disk.{with_word}
use Rattle.raw_image.proofs.Tracks.{track_of-others}
use Rattle.sector_map.proofs.KeptTracks.{with_itself}

pub if_both : {A : Type 0} (b : Bool) (x y : A) (P : A → Type 0) → P x → P y → P (if b then x else y)
if_both true x y P px py = px
if_both false x y P px py = py

pub le_true : (a b : ℕ) → a ≤ b → nat_le a b ≡ true
le_true a b h = grind (arith, nat_tests)

pub lt_true : (a b : ℕ) → a < b → nat_lt a b ≡ true
lt_true a b h = grind (arith, nat_tests)

pub number_is : (a b : ℕ) → (a == b) ≡ true → a ≡ b
number_is a b h = grind (arith, nat_tests)

pub not_granting : (granting : Bool) → granting ≡ false → granting ≡ true → ⊥
not_granting true p q = absurd cc
not_granting false p q = absurd cc

pub different : (a b : ℕ) → (a == b) ≡ false → a ≡ b → ⊥
different a b h same = grind (arith, nat_tests)

pub length_more : (bytes : List ℕ) (byte : ℕ) → length (bytes ++ byte ∷ []) ≡ length bytes + 1
length_more bytes byte = length-append bytes (byte ∷ [])

-- ---- one more word, between the opening of the gate and its closing

-- ---- a word more on a track

none_of : (track : List ℕ) (start : ℕ) → start < length track → with_items track start [] ≡ track
unfolding with_items
none_of track start room =
    let same : start + 0 ≡ start = omega arith in
    ap (λ n. take start track ++ ([] ++ drop n track)) same ∙ take-append-drop start track

one_more : (track : List ℕ) (start : ℕ) (words : List ℕ) (word : ℕ) → start + length words < length track
    → slice_set (with_items track start words) (start + length words) word ≡ with_items track start (words ++ word ∷ [])
one_more track start words word room =
    let more = length_more words word in
    let fits : start + length words ≤ length track = omega arith in
    let wide : start + length (words ++ word ∷ []) ≤ length track = omega arith in
    let long = length-with_items track start words fits in
    let old = with_items track start words in
    ext_get_or 0 (slice_set old (start + length words) word) (with_items track start (words ++ word ∷ []))
    (length-set old (start + length words) word ∙ (long ∙ sym (length-with_items track start (words ++ word ∷ []) wide)))
    (λ k below. elim (cases_lt k start) [
      | inl before ↦
          get_or-set_other old (start + length words) k word 0 (λ same. absurd (omega arith))
          ∙ (with_items_before track start words fits k before ∙ sym (with_items_before track start (words ++ word ∷ []) wide k before))
      | inr from ↦ elim (cases_lt k (start + length words)) [
        | inl inner ↦
            get_or-set_other old (start + length words) k word 0 (λ same. absurd (omega arith))
            ∙ (with_items_at track start words fits k (k - start) (omega arith) (omega arith)
            ∙ (sym (get_or-append words (word ∷ []) 0 (k - start) (omega arith)) ∙ sym (with_items_at track start (words ++ word ∷ []) wide k (k - start) (omega arith) (omega arith))))
        | inr beyond ↦ elim (cases_lt k (start + length words + 1)) [
          | inl last ↦
              get_or-set_at old (start + length words) k word 0 (omega arith) (omega arith)
              ∙ (sym (get_or_push words word 0 (k - start) (omega arith)) ∙ sym (with_items_at track start (words ++ word ∷ []) wide k (k - start) (omega arith) (omega arith)))
          | inr behind ↦
              get_or-set_other old (start + length words) k word 0 (λ same. absurd (omega arith))
              ∙ (with_items_behind track start words fits k (omega arith) ∙ sym (with_items_behind track start (words ++ word ∷ []) wide k (omega arith)))
        ]
      ]
    ])

-- ---- a word more on a disk

track_set : (disk : Disk) (c h place word : ℕ) → place < disk.words_per_track → track_of (with_word disk c h place word) c h ≡ slice_set (track_of disk c h) place word
track_set disk c h place word within =
    ap (take disk.words_per_track) (drop-set-add (track_start disk c h) disk.words place word)
    ∙ take-set-lt disk.words_per_track (drop (track_start disk c h) disk.words) place word within

same_tracks : (disk now : Disk) (c h : ℕ) → now.cylinders ≡ disk.cylinders → now.heads ≡ disk.heads → HasTrack disk c h → HasTrack now c h
same_tracks disk now c h cylinders heads has =
    (subst (λ n. c < n) (sym cylinders) has.0, subst (λ n. h < n) (sym heads) has.1)

-- all words stand, and the next does too
stands_more : (disk : Disk) (c h start : ℕ) (words : List ℕ) (now : Disk) (word : ℕ) → IsDisk disk → HasTrack disk c h → start + length words < disk.words_per_track
    → Stands disk c h start words (length words) now → IsDisk (with_word now c h (start + length words) word)
    → Stands disk c h start (words ++ word ∷ []) (length words + 1) (with_word now c h (start + length words) word)
stands_more disk c h start words now word whole has room was valid =
    let more = length_more words word in
    let all : take (length words) words ≡ words = take_all (length words) words (omega arith) in
    let all_more : take (length words + 1) (words ++ word ∷ []) ≡ words ++ word ∷ [] = take_all (length words + 1) (words ++ word ∷ []) (omega arith) in
    let long = length-track_of disk c h whole has in
    let is = was.track in
    let wide : start + length words < now.words_per_track = let same = is.words_per_track in omega arith in
    let there = same_tracks disk now c h is.cylinders is.heads has in
    record {
      few = omega arith;
      inside = omega arith;
      track = record {
        valid = valid;
        protected = is.protected;
        cylinders = is.cylinders;
        heads = is.heads;
        rate = is.rate;
        words_per_track = is.words_per_track;
        has = track_set now c h (start + length words) word wide
            ∙ (ap (λ row. slice_set row (start + length words) word) (is.has ∙ ap (with_items (track_of disk c h) start) all)
            ∙ (one_more (track_of disk c h) start words word (omega arith) ∙ ap (with_items (track_of disk c h) start) (sym all_more)));
        others = λ b g had other.
            track_of-others now c h (start + length words) word there wide b g (same_tracks disk now b g is.cylinders is.heads had) other
            ∙ is.others b g had other;
      };
    }

-- the next does not
stands_less : (disk : Disk) (c h start : ℕ) (words : List ℕ) (count : ℕ) (now : Disk) (word : ℕ) → Stands disk c h start words count now
    → Stands disk c h start (words ++ word ∷ []) count now
stands_less disk c h start words count now word was =
    let more = length_more words word in
    let few = was.few in
    record {
      few = omega arith;
      inside = was.inside;
      track = subst (λ row. IsWithTrack disk c h (with_items (track_of disk c h) start row) now) (shorter words word count few) was.track;
    }
  where
    shorter : (words : List ℕ) (word count : ℕ) → count ≤ length words → take count words ≡ take count (words ++ word ∷ [])
    shorter words word count few =
        let more = length_more words word in
        let one = length-take count words in
        let two = length-take count (words ++ word ∷ []) in
        ext_get_or 0 (take count words) (take count (words ++ word ∷ [])) (omega arith)
        (λ k below.
        get_or-take count words k 0 (omega arith)
        ∙ (sym (get_or-append words (word ∷ []) 0 k (omega arith)) ∙ sym (get_or-take count (words ++ word ∷ []) k 0 (omega arith))))

-- ---- the drive

pub gate_opens : (disk : Disk) (c h start faults : ℕ) (before after : DriveState) → IsDisk disk → HasTrack disk c h → start < disk.words_per_track
    → before.medium ≡ Some disk → after ≡ with_gate true before → IsPutOpen disk c h start [] faults after
gate_opens disk c h start faults before after whole has room is becomes = record {
  put = record {
    now = disk;
    count = 0;
    medium = ap (λ s. s.medium) becomes ∙ is;
    stands = record {
      few = omega arith;
      inside = omega arith;
      track = with_itself disk c h _ whole (none_of (track_of disk c h) start (let long = length-track_of disk c h whole has in omega arith));
    };
    whole = λ _. refl;
  };
  gate = ap (λ s. s.gate) becomes;
  uncut = λ _. refl;
  cut = λ cut _. absurd (closed (sym (ap (λ s. s.cut) becomes) ∙ cut));
}
  where
    closed : false ≡ true → ⊥
    closed same = absurd cc

pub gate_closes : (disk : Disk) (c h start : ℕ) (words : List ℕ) (faults : ℕ) (before after : DriveState)
    → IsPut disk c h start words faults before → after ≡ with_gate false before → IsPut disk c h start words faults after
gate_closes disk c h start words faults before after was becomes = record {
  now = was.now;
  count = was.count;
  medium = ap (λ s. s.medium) becomes ∙ was.medium;
  stands = was.stands;
  whole = λ calm. was.whole (let same : after.faults ≡ before.faults = ap (λ s. s.faults) becomes in let no_more = calm.0 in let below = calm.1 in (omega arith, omega arith));
}

-- the medium stays
pub put_stays : (disk : Disk) (c h start : ℕ) (words : List ℕ) (faults : ℕ) (before after : DriveState)
    → IsPut disk c h start words faults before → after.medium ≡ before.medium → before.faults ≤ after.faults → IsPut disk c h start words faults after
put_stays disk c h start words faults before after was same falls = record {
  now = was.now;
  count = was.count;
  medium = same ∙ was.medium;
  stands = was.stands;
  whole = λ calm. was.whole (let no_more = calm.0 in let below = calm.1 in (omega arith, omega arith));
}

-- where the gate isn't cut a word can be written, and is
can_is : (drive : DriveState) (now : Disk) (c place : ℕ) → drive.medium ≡ Some now → IsOver c place drive → drive.gate ≡ true → (cut : Bool) → drive.cut ≡ cut → can_write drive ≡ not cut
can_is drive now c place medium over gate cut is = rw (medium, over.motor, le_true 6250 drive.spin over.speed, gate, is) (by_cut cut)
  where
    by_cut : (cut : Bool) → (true && (true && not cut)) ≡ not cut
    by_cut true = refl
    by_cut false = refl

rewritten_is : (disk now : Disk) (c h place word : ℕ) → now.protected ≡ false → HasTrack now c h → rewritten (Some now) c h place word ≡ Some (with_word now c h place word)
rewritten_is disk now c h place word unlocked has = rw (unlocked, lt_true c now.cylinders has.0, lt_true h now.heads has.1) refl

module _ (disk : Disk) (c h start : ℕ) (words : List ℕ) (faults : ℕ) (before after : DriveState) (word : ℕ) (whole : IsDisk disk) (has : HasTrack disk c h)
    (unprotected : disk.protected ≡ false) (room : start + length words < disk.words_per_track) (over : IsOver c (start + length words) before)
    (was : IsPutOpen disk c h start words faults before) (range : IfSome after.medium IsDisk) where
  -- the gate was cut before: the word is lost
  lost : before.cut ≡ true → after.medium ≡ before.medium → after.gate ≡ true → before.faults ≤ after.faults → (after.cut ≡ true)
      → IsPutOpen disk c h start (words ++ word ∷ []) faults after
  lost cut same gate falls still = record {
    put = record {
      now = was.put.now;
      count = was.put.count;
      medium = same ∙ was.put.medium;
      stands = stands_less disk c h start words was.put.count was.put.now word was.put.stands;
      whole = λ calm. absurd (was.cut cut (let no_more = calm.0 in let below = calm.1 in (omega arith, omega arith)));
    };
    gate = gate;
    uncut = λ no. absurd (not_granting after.cut no still);
    cut = λ _ calm. was.cut cut (let no_more = calm.0 in let below = calm.1 in (omega arith, omega arith));
  }

  -- it is cut now
  cut_now : after.medium ≡ before.medium → after.gate ≡ true → after.cut ≡ true → Rose before.faults after.faults → faults ≤ before.faults
      → IsPutOpen disk c h start (words ++ word ∷ []) faults after
  cut_now same gate still rose falls = record {
    put = record {
      now = was.put.now;
      count = was.put.count;
      medium = same ∙ was.put.medium;
      stands = stands_less disk c h start words was.put.count was.put.now word was.put.stands;
      whole = λ calm. let no_more = calm.0 in let below = calm.1 in absurd (omega arith);
    };
    gate = gate;
    uncut = λ no. absurd (not_granting after.cut no still);
    cut = λ _ calm. let no_more = calm.0 in let below = calm.1 in omega arith;
  }

  -- the word stands
  put_now : before.cut ≡ false → after.medium ≡ rewritten before.medium before.cylinder h before.place word → after.gate ≡ true → before.faults ≤ after.faults → after.cut ≡ false
      → IsPutOpen disk c h start (words ++ word ∷ []) faults after
  put_now uncut medium gate falls still =
      let now = was.put.now in
      let all : was.put.count ≡ length words = was.uncut uncut in
      let stands : Stands disk c h start words (length words) now = subst (λ count. Stands disk c h start words count now) all was.put.stands in
      let then_now = with_word now c h (start + length words) word in
      let there = same_tracks disk now c h stands.track.cylinders stands.track.heads has in
      let is : after.medium ≡ Some then_now =
      medium ∙ (ap (λ m. rewritten m before.cylinder h before.place word) was.put.medium
      ∙ (ap (λ b. rewritten (Some now) b h before.place word) over.cylinder
      ∙ (ap (λ place. rewritten (Some now) c h place word) over.place
      ∙ rewritten_is disk now c h (start + length words) word (stands.track.protected ∙ unprotected) there))) in
      let valid : IsDisk then_now = subst (λ m. IfSome m IsDisk) is range in
      let more = length_more words word in
      record {
        put = record {
          now = then_now;
          count = length words + 1;
          medium = is;
          stands = stands_more disk c h start words now word whole has room stands valid;
          whole = λ _. omega arith;
        };
        gate = gate;
        uncut = λ _. omega arith;
        cut = λ cut _. absurd (not_granting after.cut still cut);
      }

  by_cut : faults ≤ before.faults → (cut : Bool) → before.cut ≡ cut → Writes h word before after → IsPutOpen disk c h start (words ++ word ∷ []) faults after
  by_cut falls true is (inl wrote) =
      let can = can_is before was.put.now c (start + length words) was.put.medium over was.gate true is in
      lost is (ap (λ s. s.medium) wrote.becomes ∙ ap (λ b. if b then rewritten before.medium before.cylinder h before.place word else before.medium) can)
      (ap (λ s. s.gate) wrote.becomes ∙ was.gate) wrote.never_falls (ap (λ s. s.cut) wrote.becomes ∙ is)
  by_cut falls false is (inl wrote) =
      let can = can_is before was.put.now c (start + length words) was.put.medium over was.gate false is in
      put_now is (ap (λ s. s.medium) wrote.becomes ∙ ap (λ b. if b then rewritten before.medium before.cylinder h before.place word else before.medium) can)
      (ap (λ s. s.gate) wrote.becomes ∙ was.gate) wrote.never_falls (ap (λ s. s.cut) wrote.becomes ∙ is)
  by_cut falls cut is (inr (can, becomes, rose)) =
      cut_now (ap (λ s. s.medium) becomes.becomes) (ap (λ s. s.gate) becomes.becomes ∙ was.gate) (ap (λ s. s.cut) becomes.becomes) rose falls

pub word_written : (disk : Disk) (c h start : ℕ) (words : List ℕ) (faults : ℕ) (before after : DriveState) (word : ℕ) → IsDisk disk → HasTrack disk c h
    → disk.protected ≡ false → start + length words < disk.words_per_track → faults ≤ before.faults → IsOver c (start + length words) before
    → IsPutOpen disk c h start words faults before → Writes h word before after → IfSome after.medium IsDisk
    → IsPutOpen disk c h start (words ++ word ∷ []) faults after
word_written disk c h start words faults before after word whole has unprotected room falls over was writes range =
    by_cut disk c h start words faults before after word whole has unprotected room over was range falls before.cut refl writes
