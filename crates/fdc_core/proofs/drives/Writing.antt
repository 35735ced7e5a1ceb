-- The drive of a command that writes, from one word time to the next: where it is, and what stands on its medium.
use Rattle.std.proofs.Common.{◌≡◌, ◌⊎◌, inl, inr, ℕ, zero, suc, ◌+◌, ◌*◌, ◌<◌, ◌≤◌, ◌==◌, ◌&&◌, not, nat_lt, Bool, true, false, List, ◌∷◌, [], ◌++◌, Option, Some, length, if◌then◌else◌, refl, sym, ◌∙◌, ap, subst, arith}
use Rattle.fdc_core.proofs.Common.{false_from_ne_true, false≢true, nat_tests, Disk, IsDisk, HasTrack, with_word_on, with_word, DriveState, Writes, at_index, can_write, is_protected, rewritten, Past, heard, wrote, turns_after, words_heard, stepped, rate_fits, let_pass, IsHeardTime, IsWroteTime, Opens, IsHearing, Outset, track_heard, IsOver, ArePutOpen, HasMedium, HearsTrack, IsAtDrive, IsAtWork, IsThere, start_in}
use Rattle.fdc_core.proofs.drives.Facts.{different, length_more, number_is, gate_opens, put_stays, word_written}
use Rattle.fdc_core.proofs.drives.Passing.{hearing_on, length_heard, lt_of}
use Rattle.fdc_core.proofs.drives.WritingWords.{by_index, close_put, closes_same, falls_closed, falls_opened, falls_written, few_words, hears_on, index_is, none_long, none_or_some, opens_same, over_closed, over_opened, over_written, still_open, words_more}

-- ---- the track

-- where the drive changed only as a word time changes it, its count of faults stays
same_falls : (drive after : DriveState) → after ≡ let_pass drive → drive.faults ≤ after.faults
same_falls drive after is = let same : after.faults ≡ drive.faults = ap (λ s. s.faults) is in omega arith

not_lt : (a b : ℕ) → nat_lt a b ≡ false → a < b → ⊥
not_lt a b h less = grind (arith, nat_tests)

pub there_or_not : (outset : Outset) → IsThere outset ⊎ (IsThere outset → ⊥)
there_or_not outset = by_track (nat_lt outset.cylinder outset.disk.cylinders) (nat_lt outset.head outset.disk.heads) refl refl
  where
    by_track : (c h : Bool) → nat_lt outset.cylinder outset.disk.cylinders ≡ c → nat_lt outset.head outset.disk.heads ≡ h → IsThere outset ⊎ (IsThere outset → ⊥)
    by_track true true low head = inl (lt_of _ _ low, lt_of _ _ head)
    by_track true false low head = inr (λ there. not_lt _ _ head there.1)
    by_track false h low head = inr (λ there. not_lt _ _ low there.0)

-- where there is no such track, no write changes the medium
absent_same : (disk : Disk) (c h place word : ℕ) → (HasTrack disk c h → ⊥) → rewritten (Some disk) c h place word ≡ Some disk
absent_same disk c h place word none = by_track (nat_lt c disk.cylinders) (nat_lt h disk.heads) (not disk.protected) refl refl
  where
    by_track : (b g may : Bool) → nat_lt c disk.cylinders ≡ b → nat_lt h disk.heads ≡ g → (if may && (b && g) then Some (with_word_on disk c h place word) else Some disk) ≡ Some disk
    by_track true true may low head = absurd (none (lt_of _ _ low, lt_of _ _ head))
    by_track true false true low head = refl
    by_track true false false low head = refl
    by_track false g true low head = refl
    by_track false g false low head = refl

either_same : (can : Bool) (one two : Option Disk) → one ≡ two → (if can then one else two) ≡ two
either_same true one two same = same
either_same false one two same = refl

writes_absent : (outset : Outset) (old new : DriveState) (word : ℕ) → (IsThere outset → ⊥) → old.medium ≡ Some outset.disk → old.cylinder ≡ outset.cylinder → Writes outset.head word old new → new.medium ≡ old.medium
writes_absent outset old new word none medium at (inl wrote) =
    ap (λ s. s.medium) wrote.becomes
    ∙ either_same (can_write old) (rewritten old.medium old.cylinder outset.head old.place word) old.medium
    (ap (λ m. rewritten m old.cylinder outset.head old.place word) medium
    ∙ (ap (λ c. rewritten (Some outset.disk) c outset.head old.place word) at
    ∙ (absent_same outset.disk outset.cylinder outset.head old.place word none ∙ sym medium)))
writes_absent outset old new word none medium at (inr (can, becomes, rose)) = ap (λ s. s.medium) becomes.becomes

-- ---- the drive

-- a medium with as many words on a track is in
record IsIn (outset : Outset) (drive : DriveState) : Type 0 where
  pub now : Disk
  pub medium : drive.medium ≡ Some now
  pub words : now.words_per_track ≡ outset.disk.words_per_track

is_in : (outset : Outset) (past : Past) (drive : DriveState) → IsAtDrive outset past true drive → IsIn outset drive
is_in outset past drive was = elim (there_or_not outset) [
  | inl there ↦ elim (none_or_some past.words) [
    | inl none ↦ record { now = outset.disk; medium = was.medium.quiet none; words = refl }
    | inr some ↦ let put = was.medium.put there some in record { now = put.now; medium = put.medium; words = put.stands.track.words_per_track }
  ]
  | inr absent ↦ record { now = outset.disk; medium = was.medium.absent absent; words = refl }
]

early_on : (outset : Outset) (past : Past) (faults : ℕ) (drive : DriveState) → IsDisk outset.disk → HearsTrack outset past.turns past.seen faults
    → IsAtWork outset (start_in outset past) past.turns (words_heard past) past.words past.steps drive → past.steps + 1 ≤ 2 * outset.disk.words_per_track
early_on outset past faults drive valid hears works =
    let long = length_heard outset valid in
    let few = few_words (track_heard outset) outset.from past.turns past.seen hears.heard.over works.few in
    let paced = works.paced in
    let inside = works.inside in
    omega arith

-- ---- a medium that isn't protected

pub still_unprotected : (outset : Outset) (past : Past) (drive : DriveState) (steps : ℕ) → IsAtDrive outset past true drive → past.steps ≡ steps → (steps ≡ 0 → past.words ≡ [])
    → (steps ≡ 0 → is_protected drive.medium ≡ true → ⊥) → outset.disk.protected ≡ false
still_unprotected outset past drive zero was steps_are fresh guards = false_from_ne_true outset.disk.protected (λ covered. guards refl (ap is_protected (was.medium.quiet (fresh refl)) ∙ covered))
still_unprotected outset past drive (suc steps) was steps_are fresh guards = (was.works refl).unprotected (omega arith)

-- ---- a word was heard

pub saw_on : (outset : Outset) (past : Past) (drive after : DriveState) (index executes : Bool) (word : ℕ) → IsDisk outset.disk → IsAtDrive outset past true drive
    → past.words ≡ [] → outset.disk.protected ≡ false → IsHeardTime index word outset.rate outset.head drive after
    → (executes ≡ true → length (turns_after index past.turns (with_word past.seen word)) ≤ 1)
    → IsAtDrive outset (heard index word (stepped past)) executes after
saw_on outset past drive after index executes word valid was none unprotected is few =
    let works = was.works refl in
    let zero_words = none_long past.words none in
    let over = works.over in
    let hearing : IsHearing outset past true drive = record {
      heard = was.hears.heard;
      never_falls = was.hears.never_falls;
      whole = was.hears.whole;
      under = λ _. record {
        medium = was.medium.quiet none;
        cylinder = over.cylinder;
        motor = over.motor;
        speed = over.speed;
        place = let at = over.place in omega arith;
        inside = let at = over.place in let inside = works.inside in omega arith;
      };
    } in
    let at_it : IsHearing outset (heard (at_index drive) word (stepped past)) true after = hearing_on outset past drive after word true valid hearing is.sees is.passes in
    let on : IsHearing outset (heard index word (stepped past)) true after = subst (λ b. IsHearing outset (heard b word (stepped past)) true after) (sym is.index_is) at_it in
    let under = on.under refl in
    record {
      hears = record { heard = on.heard; never_falls = on.never_falls; whole = on.whole };
      medium = record { quiet = λ _. under.medium; absent = λ _. under.medium; put = λ there some. absurd (omega arith) };
      unprotected = λ _. unprotected;
      fits = λ some. absurd (omega arith);
      barred = was.barred;
      early = early_on outset past drive.faults drive valid was.hears works;
      inside = let at = under.place in let inside = under.inside in omega arith;
      index = λ _ some. absurd (omega arith);
      works = λ busy. record {
        over = record { cylinder = under.cylinder; place = let at = under.place in omega arith; motor = under.motor; speed = under.speed };
        inside = let at = under.place in let inside = under.inside in omega arith;
        gate = λ there some. absurd (omega arith);
        few = few busy;
        paced = let paced = works.paced in let more = words_more index past.turns past.seen word in omega arith;
        unprotected = λ _. unprotected;
      };
    }

-- where the gate couldn't be opened
pub kept_on : (outset : Outset) (past : Past) (executes : Bool) (drive : DriveState) → IsAtDrive outset past executes drive → rate_fits outset.rate outset.disk.rate ≡ false
    → IsAtDrive outset (record past { barred = true }) executes drive
kept_on outset past executes drive was other = record {
  hears = was.hears;
  medium = was.medium;
  unprotected = was.unprotected;
  fits = was.fits;
  barred = λ _. other;
  early = was.early;
  inside = was.inside;
  index = was.index;
  works = was.works;
}

-- ---- a word was written

opened_put : (opened : Bool) (outset : Outset) (past : Past) (drive from : DriveState) → IsDisk outset.disk → IsThere outset → IsAtDrive outset past true drive
    → (opened ≡ true → past.words ≡ []) → (opened ≡ false → 1 ≤ length past.words) → Opens opened drive from → ArePutOpen outset (start_in outset past) past.words from
opened_put true outset past drive from valid there was first later opens =
    let works = was.works refl in
    let none = first refl in
    let zero_words = none_long past.words none in
    let room = works.inside in
    let opened = gate_opens outset.disk outset.cylinder outset.head (start_in outset past) outset.faults drive from valid there (omega arith) (was.medium.quiet none) opens in
    subst (λ words. ArePutOpen outset (start_in outset past) words from) (sym none) opened
opened_put false outset past drive from valid there was first later opens =
    subst (ArePutOpen outset (start_in outset past) past.words) (sym opens) ((was.works refl).gate there (later refl))

pub wrote_on : (outset : Outset) (past : Past) (drive after : DriveState) (opened closed index executes : Bool) (word : ℕ) → IsDisk outset.disk → rate_fits outset.rate outset.disk.rate ≡ true
    → IsAtDrive outset past true drive → outset.disk.protected ≡ false → (opened ≡ true → past.words ≡ []) → (opened ≡ false → 1 ≤ length past.words)
    → IsWroteTime opened closed index word outset.rate outset.head drive after
    → (executes ≡ true → closed ≡ false) → (executes ≡ true → index ≡ false)
    → IsAtDrive outset (wrote index word (stepped past)) executes after
wrote_on outset past drive after opened closed index executes word valid fits was unprotected first later is stays inner =
    let works = was.works refl in
    let start = start_in outset past in
    let place = start + length past.words in
    let more = length_more past.words word in
    let held = is_in outset past drive was in
    let from_medium = opens_same opened drive is.from is.opens in
    let from_over : IsOver outset.cylinder place is.from = over_opened opened outset.cylinder place drive is.from works.over is.opens in
    let falls_from = falls_opened opened drive is.from is.opens in
    let falls_mid = falls_written is.from is.mid outset.head word is.writes in
    let falls_after = falls_closed closed is.mid after is.closes in
    let never = was.hears.never_falls in
    let mid_put : (there : IsThere outset) → ArePutOpen outset start (past.words ++ word ∷ []) is.mid = λ there.
    word_written outset.disk outset.cylinder outset.head start past.words outset.faults is.from is.mid word valid there unprotected works.inside (omega arith) from_over
    (opened_put opened outset past drive is.from valid there was first later is.opens) is.writes is.range_mid.medium in
    let here : index ≡ (place + 1 == outset.disk.words_per_track) =
    is.index_is ∙ (index_is held.now outset.cylinder place drive held.medium works.over ∙ ap (λ n. place + 1 == n) held.words) in
    record {
      hears = hears_on outset past.turns past.seen drive.faults after.faults (omega arith) was.hears;
      medium = record {
        quiet = λ none. let zero_words = none_long (past.words ++ word ∷ []) none in absurd (omega arith);
        absent = λ none.
            let same = was.medium.absent none in
            closes_same closed is.mid after is.closes
            ∙ (writes_absent outset is.from is.mid word none (from_medium ∙ same) from_over.cylinder is.writes ∙ (from_medium ∙ same));
        put = λ there _. close_put closed outset start (past.words ++ word ∷ []) is.mid after (mid_put there) is.closes;
      };
      unprotected = λ _. unprotected;
      fits = λ _. fits;
      barred = was.barred;
      early = early_on outset past drive.faults drive valid was.hears works;
      inside = let room = works.inside in omega arith;
      index = λ zero_place _. let last = by_index outset past index (λ yes. number_is (place + 1) outset.disk.words_per_track (sym here ∙ yes)) zero_place in omega arith;
      works = λ busy.
          let no_index : (place + 1 == outset.disk.words_per_track) ≡ false = sym here ∙ inner busy in
          let mid_over : IsOver outset.cylinder (place + 1) is.mid =
          over_written held.now outset.cylinder place is.from is.mid outset.head word (from_medium ∙ held.medium) from_over (ap (λ n. place + 1 == n) held.words ∙ no_index) is.writes in
          let after_over : IsOver outset.cylinder (place + 1) after = over_closed closed outset.cylinder (place + 1) is.mid after mid_over is.closes in
          let unlike = different (place + 1) outset.disk.words_per_track no_index in
          let room = works.inside in
          record {
            over = subst (λ n. IsOver outset.cylinder n after) (omega arith) after_over;
            inside = omega arith;
            gate = λ there _. still_open closed outset start (past.words ++ word ∷ []) is.mid after (mid_put there) is.closes (stays busy);
            few = works.few;
            paced = let paced = works.paced in omega arith;
            unprotected = λ _. unprotected;
          };
    }

-- ---- the command is over

medium_stays : (outset : Outset) (start : ℕ) (words : List ℕ) (before after : DriveState) → HasMedium outset start words before → after.medium ≡ before.medium → before.faults ≤ after.faults → HasMedium outset start words after
medium_stays outset start words before after was same falls = record {
  quiet = λ none. same ∙ was.quiet none;
  absent = λ none. same ∙ was.absent none;
  put = λ there some. put_stays outset.disk outset.cylinder outset.head start words outset.faults before after (was.put there some) same falls;
}

-- in the step that stops it
pub stopped_on : (outset : Outset) (past : Past) (drive after : DriveState) → IsDisk outset.disk → IsAtDrive outset past true drive → after ≡ let_pass drive
    → IsAtDrive outset (stepped past) false after
stopped_on outset past drive after valid was becomes = record {
  hears = hears_on outset past.turns past.seen drive.faults after.faults (same_falls drive after becomes) was.hears;
  medium = medium_stays outset (start_in outset past) past.words drive after was.medium (ap (λ s. s.medium) becomes) (same_falls drive after becomes);
  unprotected = was.unprotected;
  fits = was.fits;
  barred = was.barred;
  early = early_on outset past drive.faults drive valid was.hears (was.works refl);
  inside = was.inside;
  index = was.index;
  works = λ no. absurd (false≢true no);
}

-- and later
pub rests_on : (outset : Outset) (past : Past) (drive after : DriveState) → IsAtDrive outset past false drive → after.medium ≡ drive.medium → drive.faults ≤ after.faults
    → IsAtDrive outset past false after
rests_on outset past drive after was same falls = record {
  hears = hears_on outset past.turns past.seen drive.faults after.faults falls was.hears;
  medium = medium_stays outset (start_in outset past) past.words drive after was.medium same falls;
  unprotected = was.unprotected;
  fits = was.fits;
  barred = was.barred;
  early = was.early;
  inside = was.inside;
  index = was.index;
  works = λ no. absurd (false≢true no);
}

-- ---- nothing passed

-- whatever bytes were moved, and where the command may be over
pub drive_less : (outset : Outset) (past : Past) (before now : Bool) (drive : DriveState) (given taken : List ℕ) (counted : Bool) → (now ≡ true → before ≡ true) → IsAtDrive outset past before drive
    → IsAtDrive outset (record past { given = given; taken = taken; counted = counted }) now drive
drive_less outset past before now drive given taken counted less was = record {
  hears = was.hears;
  medium = was.medium;
  unprotected = was.unprotected;
  fits = was.fits;
  barred = was.barred;
  early = was.early;
  inside = was.inside;
  index = was.index;
  works = λ busy. was.works (less busy);
}
