-- The word time of a command that writes: the place of its drive, and what was heard.
use Rattle.std.proofs.Common.{◌≡◌, ◌⊎◌, inl, inr, ℕ, ◌+◌, ◌*◌, ◌≤◌, ◌==◌, ◌&&◌, nat_lt, Bool, true, false, List, ◌∷◌, [], Some, length, if◌then◌else◌, refl, sym, ◌∙◌, ap, subst, arith}
use Rattle.fdc_core.proofs.Common.{false≢true, Chrn, Disk, IsAddressAt, with_word, turn_after, DriveState, Writes, passed, at_index, turns, Past, place_after, turns_after, words_in, Opens, Closes, AreHeard, start_of, IsRecorded, Outset, track_heard, IsOver, ArePut, ArePutOpen, HearsTrack, start_in}
use Rattle.fdc_core.proofs.drives.Facts.{if_both, le_true, length_more, gate_closes}
use Rattle.fdc_core.proofs.drives.Fields.{address_heard}
use Rattle.fdc_core.proofs.drives.Passing.{recorded}

-- ---- tests

pub none_or_some : (words : List ℕ) → (words ≡ []) ⊎ (1 ≤ length words)
none_or_some [] = inl refl
none_or_some (word ∷ words) = inr (omega arith)

pub none_long : (words : List ℕ) → words ≡ [] → length words ≡ 0
none_long words none = ap length none

-- ---- the track

-- where an address field was heard the disk has the track, at its rate
pub heard_met : (outset : Outset) (past : Past) (faults : ℕ) → HearsTrack outset past.turns past.seen faults → (p : ℕ) (key : Chrn) → IsAddressAt past.seen p key → IsRecorded outset
heard_met outset past faults hears p key address =
    let start = start_of outset.from past.turns in
    recorded outset (p + 16 * start) key (address_heard (track_heard outset) start past.seen hears.heard.now p key address)

-- ---- the drive

-- a word time later
spun : (c place : ℕ) (drive : DriveState) → IsOver c place drive → 6250 ≤ (passed drive).spin
spun c place drive over = if_both (turns drive && nat_lt drive.spin 6250) (drive.spin + 1) drive.spin (λ z. 6250 ≤ z) (let fast = over.speed in omega arith) over.speed

pub place_is : (now : Disk) (c place : ℕ) (drive : DriveState) → drive.medium ≡ Some now → IsOver c place drive → (passed drive).place ≡ (if place + 1 == now.words_per_track then 0 else place + 1)
place_is now c place drive medium over = rw (medium, over.motor, le_true 6250 drive.spin over.speed, over.place) refl

pub index_is : (now : Disk) (c place : ℕ) (drive : DriveState) → drive.medium ≡ Some now → IsOver c place drive → at_index drive ≡ (place + 1 == now.words_per_track)
index_is now c place drive medium over = rw (medium, over.motor, le_true 6250 drive.spin over.speed, over.place) refl

pub over_opened : (opened : Bool) (c place : ℕ) (old new : DriveState) → IsOver c place old → Opens opened old new → IsOver c place new
over_opened true c place old new over becomes = record {
  cylinder = ap (λ s. s.cylinder) becomes ∙ over.cylinder;
  place = ap (λ s. s.place) becomes ∙ over.place;
  motor = ap (λ s. s.motor) becomes ∙ over.motor;
  speed = subst (λ n. 6250 ≤ n) (sym (ap (λ s. s.spin) becomes)) over.speed;
}
over_opened false c place old new over same = subst (IsOver c place) (sym same) over

pub over_closed : (closed : Bool) (c place : ℕ) (old new : DriveState) → IsOver c place old → Closes closed old new → IsOver c place new
over_closed true c place old new over becomes = record {
  cylinder = ap (λ s. s.cylinder) becomes ∙ over.cylinder;
  place = ap (λ s. s.place) becomes ∙ over.place;
  motor = ap (λ s. s.motor) becomes ∙ over.motor;
  speed = subst (λ n. 6250 ≤ n) (sym (ap (λ s. s.spin) becomes)) over.speed;
}
over_closed false c place old new over same = subst (IsOver c place) (sym same) over

pub opens_same : (opened : Bool) (old new : DriveState) → Opens opened old new → new.medium ≡ old.medium
opens_same true old new becomes = ap (λ s. s.medium) becomes
opens_same false old new same = ap (λ s. s.medium) same

pub closes_same : (closed : Bool) (old new : DriveState) → Closes closed old new → new.medium ≡ old.medium
closes_same true old new becomes = ap (λ s. s.medium) becomes
closes_same false old new same = ap (λ s. s.medium) same

pub falls_opened : (opened : Bool) (old new : DriveState) → Opens opened old new → old.faults ≤ new.faults
falls_opened true old new becomes = let is : new.faults ≡ old.faults = ap (λ s. s.faults) becomes in omega arith
falls_opened false old new same = let is = ap (λ s. s.faults) same in omega arith

pub falls_closed : (closed : Bool) (old new : DriveState) → Closes closed old new → old.faults ≤ new.faults
falls_closed true old new becomes = let is : new.faults ≡ old.faults = ap (λ s. s.faults) becomes in omega arith
falls_closed false old new same = let is = ap (λ s. s.faults) same in omega arith

pub falls_written : (old new : DriveState) (head word : ℕ) → Writes head word old new → old.faults ≤ new.faults
falls_written old new head word (inl wrote) = wrote.never_falls
falls_written old new head word (inr (can, becomes, rose)) = becomes.never_falls

-- after a word that isn't the track's last
pub over_written : (now : Disk) (c place : ℕ) (old new : DriveState) (head word : ℕ) → old.medium ≡ Some now → IsOver c place old → (place + 1 == now.words_per_track) ≡ false → Writes head word old new
    → IsOver c (place + 1) new
over_written now c place old new head word medium over inner writes =
    let at : (passed old).place ≡ place + 1 = place_is now c place old medium over ∙ ap (λ b. if b then 0 else place + 1) inner in
    by_way at writes
  where
    by_way : (passed old).place ≡ place + 1 → Writes head word old new → IsOver c (place + 1) new
    by_way at (inl wrote) = record {
      cylinder = ap (λ s. s.cylinder) wrote.becomes ∙ over.cylinder;
      place = ap (λ s. s.place) wrote.becomes ∙ at;
      motor = ap (λ s. s.motor) wrote.becomes ∙ over.motor;
      speed = subst (λ n. 6250 ≤ n) (sym (ap (λ s. s.spin) wrote.becomes)) (spun c place old over);
    }
    by_way at (inr (can, becomes, rose)) = record {
      cylinder = ap (λ s. s.cylinder) becomes.becomes ∙ over.cylinder;
      place = ap (λ s. s.place) becomes.becomes ∙ at;
      motor = ap (λ s. s.motor) becomes.becomes ∙ over.motor;
      speed = subst (λ n. 6250 ≤ n) (sym (ap (λ s. s.spin) becomes.becomes)) (spun c place old over);
    }

-- ---- what was heard

pub hears_on : (outset : Outset) (turns : List (List ℕ)) (seen : List ℕ) (before after : ℕ) → before ≤ after → HearsTrack outset turns seen before → HearsTrack outset turns seen after
hears_on outset turns seen before after falls was = record {
  heard = was.heard;
  never_falls = let first = was.never_falls in omega arith;
  whole = λ calm. was.whole (let no_more = calm.0 in let below = calm.1 in (omega arith, omega arith));
}

-- the words of a revolution and a part of one are few
pub few_words : (track : List ℕ) (from : ℕ) (turns : List (List ℕ)) (seen : List ℕ) → AreHeard track from turns → length turns ≤ 1 → words_in turns seen ≤ length track + length seen
few_words track from [] seen over few = omega arith
few_words track from (turn ∷ []) seen (heard, end, others) few = let room = heard.inside in omega arith
few_words track from (turn ∷ other ∷ turns) seen over few = absurd (omega arith)

pub words_more : (index : Bool) (turns : List (List ℕ)) (seen : List ℕ) (word : ℕ) → words_in (turns_after index turns (with_word seen word)) (turn_after index seen word) ≡ words_in turns seen + 1
words_more true turns seen word = grow turns
  where
    grow : (turns : List (List ℕ)) → words_in (with_word seen word ∷ turns) [] ≡ words_in turns seen + 1
    grow [] = let more = length_more seen word in omega arith
    grow (turn ∷ turns) = let more = length_more seen word in let rest = swap turns in omega arith
      where
        swap : (turns : List (List ℕ)) → words_in turns [] + length seen ≡ words_in turns seen
        swap [] = omega arith
        swap (turn ∷ turns) = let rest = swap turns in omega arith
words_more false turns seen word = grow turns
  where
    grow : (turns : List (List ℕ)) → words_in turns (with_word seen word) ≡ words_in turns seen + 1
    grow [] = length_more seen word
    grow (turn ∷ turns) = let rest = grow turns in omega arith

-- ---- a word was written

pub by_index : (outset : Outset) (past : Past) (index : Bool) → (index ≡ true → start_in outset past + length past.words + 1 ≡ outset.disk.words_per_track)
    → place_after index past.place ≡ 0 → start_in outset past + (length past.words + 1) ≡ outset.disk.words_per_track
by_index outset past true last zero_place = let is = last refl in omega arith
by_index outset past false last zero_place = absurd (omega arith)

pub close_put : (closed : Bool) (outset : Outset) (start : ℕ) (words : List ℕ) (mid after : DriveState) → ArePutOpen outset start words mid → Closes closed mid after → ArePut outset start words after
close_put true outset start words mid after put closes = gate_closes outset.disk outset.cylinder outset.head start words outset.faults mid after put.put closes
close_put false outset start words mid after put closes = subst (ArePut outset start words) (sym closes) put.put

pub still_open : (closed : Bool) (outset : Outset) (start : ℕ) (words : List ℕ) (mid after : DriveState) → ArePutOpen outset start words mid → Closes closed mid after → closed ≡ false → ArePutOpen outset start words after
still_open true outset start words mid after put closes is = absurd (false≢true (sym is))
still_open false outset start words mid after put closes is = subst (ArePutOpen outset start words) (sym closes) put
