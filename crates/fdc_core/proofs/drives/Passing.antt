-- Drives at a write of a port.
use Rattle.std.proofs.Common.{◌≡◌, ℕ, ◌==◌, ◌||◌, Bool, true, false, ap, ◌∙◌, ◌⊎◌, inl, inr, ◌+◌, ◌<◌, ◌≤◌, ◌&&◌, nat_lt, List, ◌∷◌, [], ◌++◌, Some, length, slice_index, replicate, if◌then◌else◌, refl, sym, subst, arith, length-append}
use Rattle.fdc_core.proofs.Common.{DriveState, resets, Closes, Fdc, get_or-replicate, get_or_past, length-replicate, cases_lt, nat_tests, Chrn, IsAddressAt, Becomes, passed, at_index, turns, word_under, rate_of, SeesUnder, let_pass, stepped, rate_fits, seen_of, Past, heard, Rose, place_in, Disk, IsDisk, track_of, length-track_of, IsHearing, IsRecorded, IsUnder, Outset, track_heard}
use Rattle.fdc_core.specs.Drives.Following.{FollowsDor, FollowsWrite, sets_lines}
use Rattle.fdc_core.proofs.drives.Facts.{if_both, different, le_true}
use Rattle.sector_map.specs.Met.{unrecorded}
use Rattle.sector_map.proofs.MetTracks.{length-unrecorded, nothing_unrecorded}
use Rattle.fdc_core.proofs.drives.Hearing.{heard_on, heard_on_whole}

-- a write that sets no line leaves the drive
pub drive_stays : {port value bay : ℕ} {controller : Fdc} {before after : DriveState} → FollowsWrite port value bay controller before after → sets_lines port value ≡ false
    → after ≡ before
drive_stays {port} {value} {bay} {controller} {before} {after} follows none = by_lines (port == 0x3F2) (resets port value) none follows.motor follows.gate
  where
    by_lines : (dor reset : Bool) → (dor || reset) ≡ false → FollowsDor dor bay controller before follows.between → Closes reset follows.between after → after ≡ before
    by_lines false false none same stays = stays ∙ same
    by_lines false true wrong motor gate = absurd cc
    by_lines true reset wrong motor gate = absurd cc

dor_leaves : (written : Bool) (bay : ℕ) (controller : Fdc) (before after : DriveState) → FollowsDor written bay controller before after
    → (after.medium ≡ before.medium) × (after.change ≡ before.change)
dor_leaves true bay controller before after (on, line, becomes) = (ap (λ s. s.medium) becomes, ap (λ s. s.change) becomes)
dor_leaves false bay controller before after same = (ap (λ s. s.medium) same, ap (λ s. s.change) same)

gate_leaves : (closed : Bool) (before after : DriveState) → Closes closed before after → (after.medium ≡ before.medium) × (after.change ≡ before.change)
gate_leaves true before after becomes = (ap (λ s. s.medium) becomes, ap (λ s. s.change) becomes)
gate_leaves false before after same = (ap (λ s. s.medium) same, ap (λ s. s.change) same)

-- no write changes a medium or a change line
pub write_leaves : {port value bay : ℕ} {controller : Fdc} {before after : DriveState} → FollowsWrite port value bay controller before after
    → (after.medium ≡ before.medium) × (after.change ≡ before.change)
write_leaves {port} {value} {bay} {controller} {before} {after} follows =
    let (medium, change) = dor_leaves (port == 0x3F2) bay controller before follows.between follows.motor in
    let (then_medium, then_change) = gate_leaves (resets port value) follows.between after follows.gate in
    (then_medium ∙ medium, then_change ∙ change)

-- ---- the word of a device step, and where the drive then is

-- ---- tests

pub lt_of : (a b : ℕ) → nat_lt a b ≡ true → a < b
lt_of a b h = grind (arith, nat_tests)

-- ---- the track

in_zeroes : (n k : ℕ) → slice_index (unrecorded n) k ≡ 0
unfolding unrecorded
in_zeroes n k =
    elim (cases_lt k n) [
      | inl h ↦ get_or-replicate n k 0 0 h
      | inr h ↦ let long : length {A = ℕ} (replicate n 0) ≡ n = length-replicate n 0 in get_or_past (replicate n 0) k 0 (omega arith)
    ]

pub length_heard : (outset : Outset) → IsDisk outset.disk → length (track_heard outset) ≡ outset.disk.words_per_track
length_heard outset valid = by_track (nat_lt outset.cylinder outset.disk.cylinders) (nat_lt outset.head outset.disk.heads) (rate_fits outset.rate outset.disk.rate) refl refl
  where
    by_track : (c h r : Bool) → nat_lt outset.cylinder outset.disk.cylinders ≡ c → nat_lt outset.head outset.disk.heads ≡ h
        → length (if c && h && r then track_of outset.disk outset.cylinder outset.head else unrecorded outset.disk.words_per_track) ≡ outset.disk.words_per_track
    by_track true true true low head = length-track_of outset.disk outset.cylinder outset.head valid (lt_of _ _ low, lt_of _ _ head)
    by_track true true false low head = length-unrecorded outset.disk.words_per_track
    by_track true false r low head = length-unrecorded outset.disk.words_per_track
    by_track false h r low head = length-unrecorded outset.disk.words_per_track

-- one with an address field is a track of the medium, at its own rate
pub recorded : (outset : Outset) (p : ℕ) (key : Chrn) → IsAddressAt (track_heard outset) p key → IsRecorded outset
recorded outset p key address =
    by_track (nat_lt outset.cylinder outset.disk.cylinders) (nat_lt outset.head outset.disk.heads) (rate_fits outset.rate outset.disk.rate) refl refl refl address
  where
    by_track : (c h r : Bool) → nat_lt outset.cylinder outset.disk.cylinders ≡ c → nat_lt outset.head outset.disk.heads ≡ h → rate_fits outset.rate outset.disk.rate ≡ r
        → IsAddressAt (if c && h && r then track_of outset.disk outset.cylinder outset.head else unrecorded outset.disk.words_per_track) p key → IsRecorded outset
    by_track true true true low head fits there = record { has = (lt_of _ _ low, lt_of _ _ head); fits = fits; track = rw (low, head, fits) refl }
    by_track true true false low head fits there = absurd ((nothing_unrecorded outset.disk.words_per_track).addresses p key there)
    by_track true false r low head fits there = absurd ((nothing_unrecorded outset.disk.words_per_track).addresses p key there)
    by_track false h r low head fits there = absurd ((nothing_unrecorded outset.disk.words_per_track).addresses p key there)

pub seen_none : (fits : Bool) → seen_of fits 0 ≡ 0
seen_none true = refl
seen_none false = refl

-- the word that the controller sees is that of the track that it meets
met_word : (has fits : Bool) (track : List ℕ) (n place : ℕ)
    → seen_of fits (slice_index (if has then track else []) place) ≡ slice_index (if has && fits then track else unrecorded n) place
met_word true true track n place = refl
met_word true false track n place = sym (in_zeroes n place)
met_word false fits track n place = seen_none fits ∙ sym (in_zeroes n place)

-- ---- the drive

-- a drive at speed over the medium
pub record IsTurning (disk : Disk) (drive : DriveState) : Type 0 where
  pub medium : drive.medium ≡ Some disk
  pub motor : drive.motor ≡ true
  pub speed : 6250 ≤ drive.spin

index_is : (disk : Disk) (drive : DriveState) → IsTurning disk drive → at_index drive ≡ (drive.place + 1 == disk.words_per_track)
index_is disk drive is = rw (is.medium, is.motor, le_true 6250 drive.spin is.speed) refl

place_is : (disk : Disk) (drive : DriveState) → IsTurning disk drive
    → (passed drive).place ≡ (if drive.place + 1 == disk.words_per_track then 0 else drive.place + 1)
place_is disk drive is = rw (is.medium, is.motor, le_true 6250 drive.spin is.speed) refl

spin_is : (drive : DriveState) → 6250 ≤ drive.spin → 6250 ≤ (passed drive).spin
spin_is drive fast = if_both (turns drive && nat_lt drive.spin 6250) (drive.spin + 1) drive.spin (λ z. 6250 ≤ z) (omega arith) fast

under_is : (outset : Outset) (past : Past) (drive : DriveState) → IsUnder outset past drive → IsTurning outset.disk drive
under_is outset past drive under = record { medium = under.medium; motor = under.motor; speed = under.speed }

-- the raw word under the head
raw_is : (outset : Outset) (past : Past) (drive : DriveState) → IsUnder outset past drive
    → seen_of (rate_fits outset.rate (rate_of drive.medium)) (word_under drive outset.head) ≡ slice_index (track_heard outset) drive.place
raw_is outset past drive under =
    let turning = under_is outset past drive under in
    rw (under.medium, under.motor, le_true 6250 drive.spin under.speed, under.cylinder)
    (met_word (nat_lt outset.cylinder outset.disk.cylinders && nat_lt outset.head outset.disk.heads) (rate_fits outset.rate outset.disk.rate)
    (track_of outset.disk outset.cylinder outset.head) outset.disk.words_per_track drive.place)

-- the word seen is the track's, or 0000 and a fault
seen_is : (outset : Outset) (past : Past) (drive after : DriveState) (word : ℕ) → IsUnder outset past drive
    → SeesUnder outset.rate outset.head drive word after
    → (word ≡ slice_index (track_heard outset) drive.place) ⊎ ((word ≡ 0) × Rose drive.faults after.faults)
seen_is outset past drive after word under (raw, reads, is) = elim reads [
  | inl all ↦ inl (is ∙ (ap (λ w. seen_of (rate_fits outset.rate (rate_of drive.medium)) w) all ∙ raw_is outset past drive under))
  | inr lost ↦ inr (is ∙ (ap (λ w. seen_of (rate_fits outset.rate (rate_of drive.medium)) w) lost.0 ∙ seen_none (rate_fits outset.rate (rate_of drive.medium))), lost.1)
]

-- the drive a word time later
under_on : (outset : Outset) (past : Past) (drive after : DriveState) (word : ℕ) → IsDisk outset.disk → IsUnder outset past drive → Becomes (let_pass drive) drive after
    → (index : Bool) → (drive.place + 1 == outset.disk.words_per_track) ≡ index
    → IsUnder outset (heard index word (stepped past)) after
under_on outset past drive after word valid under becomes true at =
    let place = place_is outset.disk drive (under_is outset past drive under) in
    record {
      medium = ap (λ s. s.medium) becomes.becomes ∙ under.medium;
      cylinder = ap (λ s. s.cylinder) becomes.becomes ∙ under.cylinder;
      motor = ap (λ s. s.motor) becomes.becomes ∙ under.motor;
      speed = let fast = spin_is drive under.speed in let is : after.spin ≡ (passed drive).spin = ap (λ s. s.spin) becomes.becomes in omega arith;
      place = ap (λ s. s.place) becomes.becomes ∙ (place ∙ rw at refl);
      inside = let is : after.place ≡ 0 = ap (λ s. s.place) becomes.becomes ∙ (place ∙ rw at refl) in let long = valid.words_per_track.0 in omega arith;
    }
under_on outset past drive after word valid under becomes false at =
    let place = place_is outset.disk drive (under_is outset past drive under) in
    let is : after.place ≡ drive.place + 1 = ap (λ s. s.place) becomes.becomes ∙ (place ∙ rw at refl) in
    record {
      medium = ap (λ s. s.medium) becomes.becomes ∙ under.medium;
      cylinder = ap (λ s. s.cylinder) becomes.becomes ∙ under.cylinder;
      motor = ap (λ s. s.motor) becomes.becomes ∙ under.motor;
      speed = let fast = spin_is drive under.speed in let same : after.spin ≡ (passed drive).spin = ap (λ s. s.spin) becomes.becomes in omega arith;
      place = let more : length (past.seen ++ word ∷ []) ≡ length past.seen + 1 = length-append past.seen (word ∷ []) in let was = under.place in omega arith;
      inside = let unlike = different (drive.place + 1) outset.disk.words_per_track at in let was = under.inside in omega arith;
    }

-- ---- what was heard

-- a device step of the command
pub hearing_on : (outset : Outset) (past : Past) (drive after : DriveState) (word : ℕ) (executes : Bool) → IsDisk outset.disk
    → IsHearing outset past true drive → SeesUnder outset.rate outset.head drive word after → Becomes (let_pass drive) drive after
    → IsHearing outset (heard (at_index drive) word (stepped past)) executes after
hearing_on outset past drive after word executes valid was sees becomes =
    let under = was.under refl in
    let long = length_heard outset valid in
    let at : at_index drive ≡ (drive.place + 1 == outset.disk.words_per_track) = index_is outset.disk drive (under_is outset past drive under) in
    let here : at_index drive ≡ (place_in outset.from past.turns past.seen + 1 == length (track_heard outset)) =
    at ∙ (ap (λ n. drive.place + 1 == n) (sym long) ∙ ap (λ n. n + 1 == length (track_heard outset)) under.place) in
    let room : place_in outset.from past.turns past.seen < length (track_heard outset) = let is = under.place in let below = under.inside in omega arith in
    let seen = seen_is outset past drive after word under sees in
    let before = was.never_falls in
    let falls = becomes.never_falls in
    record {
      heard = heard_on (track_heard outset) outset.from past.turns past.seen (at_index drive) word was.heard room here (elim seen [
        | inl is ↦ inl (is ∙ ap (λ n. slice_index (track_heard outset) n) under.place)
        | inr lost ↦ inr lost.0
      ]);
      never_falls = omega arith;
      whole = λ calm. elim seen [
        | inl is ↦ heard_on_whole (track_heard outset) outset.from past.turns past.seen (at_index drive) word
            (was.whole (let no_more = calm.0 in let below = calm.1 in (omega arith, omega arith))) (is ∙ ap (λ n. slice_index (track_heard outset) n) under.place)
        | inr lost ↦ let no_more = calm.0 in let below = calm.1 in let rose = lost.1 in absurd (omega arith)
      ];
      under = λ _. subst (λ index. IsUnder outset (heard index word (stepped past)) after) (sym at)
          (under_on outset past drive after word valid under becomes (drive.place + 1 == outset.disk.words_per_track) refl);
    }

-- a device step once the command is over
pub hearing_over : (outset : Outset) (past : Past) (drive after : DriveState) → IsHearing outset past false drive → drive.faults ≤ after.faults
    → IsHearing outset past false after
hearing_over outset past drive after was falls =
    let before = was.never_falls in
    record {
      heard = was.heard;
      never_falls = omega arith;
      whole = λ calm. was.whole (let no_more = calm.0 in let below = calm.1 in (omega arith, omega arith));
      under = λ no. absurd cc;
    }
