-- What was written of a window, whatever the drive's speed was when the search for its sector began.
use Rattle.std.proofs.Common.{◌≡◌, ◌⊎◌, inl, inr, ℕ, zero, suc, ◌+◌, ◌≤◌, Bool, true, false, List, [], length, refl, sym, ◌∙◌, ap, subst, arith}
use Rattle.laws_chip.proofs.Common.{false_from_ne_true, false≢true, IsDisk, with_word, DriveState, is_protected, rate_of, Past, heard, turns_after, wrote, Sent, stepped, rate_fits, IsWritingOn, Writing, is_executing, let_pass, WordTime, Saw, KeptOut, Wrote, Stopped, IsTime, after_time, WriteDoes, MayWrite, Fdc, IsRecorded, Outset, IsSpinning, IsTurningIn, IsUnheard, led, unheard, IsAtDrive, IsAtWindow, few_led, longer_led, passed_by, still_unheard, time_led, address_in, hearing_none, hears_none, spins_on, slow_or_fast, turning_on, drive_less, rests_on, saw_on, still_unprotected, stopped_on, wrote_on, heard_met, KeepsSpeed, StaysPut, stages_is_due as is_due}
use Rattle.drive_model.proofs.Passing.{becomes_at}
use Rattle.laws_chip.proofs.WriteStages.{IsDueNow, IsInExecution, due_now, due_words, ended_rests, in_execution, is_stopped, no_index, opens_due}

-- first so many words 0000 were heard, over a medium that isn't protected if there was such a word. Then the medium
-- still spins up, and nothing is written. Or it is at speed, and all is as in a write that began after those words
pub record IsWindowLed (outset : Outset) (past : Past) (executes : Bool) (drive : DriveState) : Type 0 where
  pub lead : ℕ
  pub late : Past
  pub past_is : past ≡ led lead late
  pub guarded : 1 ≤ lead → outset.disk.protected ≡ false
  pub drive_is : (IsUnheard late × IsSpinning outset 0 drive) ⊎ IsAtWindow outset late executes drive

-- ---- where no word of the track was heard

pub window_none : (outset : Outset) (late : Past) (executes : Bool) (drive : DriveState) → IsDisk outset.disk → IsTurningIn outset drive → (executes ≡ true → 6250 ≤ drive.spin)
    → IsAtWindow outset (unheard late) executes drive
window_none outset late executes drive valid is fast =
    let hearing = hearing_none outset late executes drive valid is fast in
    let room = is.inside in
    record {
      at = record {
        hears = record { heard = hearing.heard; never_falls = hearing.never_falls; whole = hearing.whole };
        medium = record { quiet = λ _. is.medium; absent = λ _. is.medium; put = λ there some. absurd (omega arith) };
        unprotected = λ some. absurd (omega arith);
        fits = λ some. absurd (omega arith);
        barred = λ yes. absurd (false≢true yes);
        early = omega arith;
        inside = omega arith;
        index = λ _ some. absurd (omega arith);
        works = λ busy. record {
          over = record { cylinder = is.cylinder; place = let here = is.place in omega arith; motor = is.motor; speed = fast busy };
          inside = omega arith;
          gate = λ there some. absurd (omega arith);
          few = omega arith;
          paced = refl;
          unprotected = λ some. absurd (omega arith);
        };
      };
      there = λ some. absurd (omega arith);
      unbarred = refl;
    }

window_unheard : (outset : Outset) (late : Past) (executes : Bool) (drive : DriveState) → IsDisk outset.disk → IsUnheard late → IsTurningIn outset drive → (executes ≡ true → 6250 ≤ drive.spin)
    → IsAtWindow outset late executes drive
window_unheard outset late executes drive valid none is fast = subst (λ past. IsAtWindow outset past executes drive) (sym none) (window_none outset late executes drive valid is fast)

pub window_first : (outset : Outset) (lead : ℕ) (late : Past) (executes : Bool) (drive : DriveState) → IsDisk outset.disk → IsUnheard late → IsTurningIn outset drive
    → (1 ≤ lead → outset.disk.protected ≡ false) → IsWindowLed outset (led lead late) executes drive
window_first outset lead late executes drive valid none is guarded = record {
  lead = lead;
  late = late;
  past_is = refl;
  guarded = guarded;
  drive_is = elim (slow_or_fast drive.spin) [
    | inl slow ↦ inl (none, record { turning = is; slow = slow; since = omega arith })
    | inr fast ↦ inr (window_unheard outset late executes drive valid none is (λ _. fast))
  ];
}

-- once the command is over, the same is known of the drive as after a write that began at speed
pub window_over : (outset : Outset) (past : Past) (drive : DriveState) → IsDisk outset.disk → (was : IsWindowLed outset past false drive) → IsAtWindow outset was.late false drive
window_over outset past drive valid was = elim was.drive_is [
  | inl (none, spins) ↦ window_unheard outset was.late false drive valid none spins.turning (λ busy. absurd (false≢true busy))
  | inr window ↦ window
]

-- ---- where nothing passes

-- whatever bytes were moved
pub window_bytes : (outset : Outset) (past : Past) (executes : Bool) (drive : DriveState) (given taken : List ℕ) (counted : Bool) → IsWindowLed outset past executes drive
    → IsWindowLed outset (record past { given = given; taken = taken; counted = counted }) executes drive
window_bytes outset past executes drive given taken counted was = record {
  lead = was.lead;
  late = record was.late { given = given; taken = taken; counted = counted };
  past_is = ap (λ (p : Past). record p { given = given; taken = taken; counted = counted }) was.past_is;
  guarded = was.guarded;
  drive_is = elim was.drive_is [
    | inl (none, spins) ↦ inl (ap (λ (p : Past). record p { given = given; taken = taken; counted = counted }) none, spins)
    | inr window ↦ inr (record {
      at = drive_less outset was.late executes executes drive given taken counted (λ busy. busy) window.at;
      there = window.there;
      unbarred = window.unbarred;
    })
  ];
}

-- while the drive stays put
window_put : (outset : Outset) (late : Past) (old new : DriveState) → StaysPut old new → KeepsSpeed old new → new.cylinder ≡ outset.cylinder → new.motor ≡ true → IsAtWindow outset late true old
    → IsAtWindow outset late true new
window_put outset late old new stays keeps cylinder motor was =
    let falls = stays.never_falls in
    let works = was.at.works refl in
    let rested = rests_on outset late old new (drive_less outset late true false old late.given late.taken late.counted (λ no. absurd (false≢true no)) was.at) stays.medium falls in
    record {
      at = record {
        hears = rested.hears;
        medium = rested.medium;
        unprotected = rested.unprotected;
        fits = rested.fits;
        barred = rested.barred;
        early = rested.early;
        inside = rested.inside;
        index = rested.index;
        works = λ busy. record {
          over = record { cylinder = cylinder; place = stays.place ∙ works.over.place; motor = motor; speed = keeps works.over.speed };
          inside = works.inside;
          gate = λ there some. let open_now = works.gate there some in
              record {
                put = record {
                  now = open_now.put.now;
                  count = open_now.put.count;
                  medium = stays.medium ∙ open_now.put.medium;
                  stands = open_now.put.stands;
                  whole = λ calm. open_now.put.whole (let no_more = calm.0 in let below = calm.1 in (omega arith, omega arith));
                };
                gate = stays.gate ∙ open_now.gate;
                uncut = λ no. open_now.uncut (sym stays.cut ∙ no);
                cut = λ yes calm. open_now.cut (sym stays.cut ∙ yes) (let no_more = calm.0 in let below = calm.1 in (omega arith, omega arith));
              };
          few = works.few;
          paced = works.paced;
          unprotected = works.unprotected;
        };
      };
      there = was.there;
      unbarred = was.unbarred;
    }

pub window_stays : (outset : Outset) (past : Past) (old new : DriveState) → IsDisk outset.disk → StaysPut old new → KeepsSpeed old new → new.cylinder ≡ outset.cylinder → new.motor ≡ true
    → IsWindowLed outset past true old → IsWindowLed outset past true new
window_stays outset past old new valid stays keeps cylinder motor was = elim was.drive_is [
  | inl (none, spins) ↦
      let before = spins.turning.never_falls in
      let falls = stays.never_falls in
      let turning : IsTurningIn outset new = record {
        medium = stays.medium ∙ spins.turning.medium;
        cylinder = cylinder;
        motor = motor;
        place = stays.place ∙ spins.turning.place;
        inside = spins.turning.inside;
        never_falls = omega arith;
      } in
      subst (λ p. IsWindowLed outset p true new) (sym was.past_is) (window_first outset was.lead was.late true new valid none turning was.guarded)
  | inr window ↦ record {
    lead = was.lead;
    late = was.late;
    past_is = was.past_is;
    guarded = was.guarded;
    drive_is = inr (window_put outset was.late old new stays keeps cylinder motor window);
  }
]

-- ---- a word time

few_heard : (lead : ℕ) (late : Past) (index : Bool) (word : ℕ) → length late.turns ≤ 1 → IsInExecution (heard index word (stepped (led lead late)))
    → length (turns_after index late.turns (with_word late.seen word)) ≤ 1
few_heard lead late true word few is = let same = few_led lead late.turns in elim is.few [ inl still ↦ omega arith | inr some ↦ absurd (omega arith) ]
few_heard lead late false word few is = few

-- a medium isn't protected if the first step didn't stop the command
fast_unprotected : (outset : Outset) (lead : ℕ) (late : Past) (drive : DriveState) (steps : ℕ) → (1 ≤ lead → outset.disk.protected ≡ false) → IsAtDrive outset late true drive → late.steps + lead ≡ steps
    → (steps ≡ 0 → late.words ≡ []) → (steps ≡ 0 → is_protected drive.medium ≡ true → ⊥) → outset.disk.protected ≡ false
fast_unprotected outset (suc lead) late drive steps guarded was steps_are fresh guards = guarded (omega arith)
fast_unprotected outset zero late drive steps guarded was steps_are fresh guards = still_unprotected outset late drive steps was (omega arith) fresh guards

spun_unprotected : (outset : Outset) (lead : ℕ) (late : Past) (drive : DriveState) (steps : ℕ) → (1 ≤ lead → outset.disk.protected ≡ false) → IsUnheard late → IsSpinning outset 0 drive
    → late.steps + lead ≡ steps → (steps ≡ 0 → is_protected drive.medium ≡ true → ⊥) → outset.disk.protected ≡ false
spun_unprotected outset (suc lead) late drive steps guarded none spins steps_are guards = guarded (omega arith)
spun_unprotected outset zero late drive steps guarded none spins steps_are guards =
    false_from_ne_true outset.disk.protected (λ covered. let first = ap (λ (p : Past). p.steps) none in guards (omega arith) (ap is_protected spins.turning.medium ∙ covered))

module _ (outset : Outset) (sent : Sent) (deleted : Bool) (lead : ℕ) (late : Past) (drive after : DriveState) (polls between : Fdc) (head_drive steps : ℕ) (writing : Writing) (fifo handed : List ℕ)
    (valid : IsDisk outset.disk) (guarded : 1 ≤ lead → outset.disk.protected ≡ false) (on : IsWritingOn (led lead late) sent deleted head_drive writing steps fifo handed) where
  abbrev past : Past
  past = led lead late

  -- at speed
  met : IsAtWindow outset late true drive → IsDueNow past writing.wanted.key writing.stage → IsRecorded outset
  met was due =
      let here = address_in lead late.turns late.seen due.place writing.wanted.key due.address in
      heard_met outset late drive.faults was.at.hears here.place writing.wanted.key here.address

  fast_time : IsAtWindow outset late true drive → (time : WordTime) → IsTime time outset.rate outset.head drive after → WriteDoes time head_drive steps writing polls drive between
      → (steps ≡ 0 → is_protected drive.medium ≡ true → time ≡ Stopped) → MayWrite (after_time time past) sent deleted between
      → IsAtWindow outset (after_time time late) (is_executing between.phase) after
  fast_time was (Saw index word) is (due, does) guards then_is =
      let none = due_words past writing.wanted.key writing.deleted handed writing.stage on.writes due in
      let unprotected = fast_unprotected outset lead late drive steps guarded was.at on.steps_are on.fresh (λ first covered. false≢true (ap is_stopped (guards first covered))) in
      record {
        at = saw_on outset late drive after index (is_executing between.phase) word valid was.at none unprotected is
            (λ busy. few_heard lead late index word (was.at.works refl).few (in_execution (heard index word (stepped past)) sent deleted between.phase between.asking between.fifo then_is busy));
        there = was.there;
        unbarred = was.unbarred;
      }
  fast_time was (KeptOut index word) (other, is) (opening, does) guards then_is =
      let due = due_now past writing.wanted.key writing.deleted handed writing.stage on.writes (opens_due writing.stage opening) in
      let medium = was.at.medium.quiet (due.first opening) in
      absurd (false≢true (sym other ∙ (ap (λ m. rate_fits outset.rate (rate_of m)) medium ∙ (met was due).fits)))
  fast_time was (Wrote opened closed index word) is does guards then_is =
      let due = due_now past writing.wanted.key writing.deleted handed writing.stage on.writes does.due in
      let unprotected = fast_unprotected outset lead late drive steps guarded was.at on.steps_are on.fresh (λ first covered. false≢true (ap is_stopped (guards first covered))) in
      record {
        at = wrote_on outset late drive after opened closed index (is_executing between.phase) word valid (met was due).fits was.at unprotected
            (λ yes. due.first (sym does.opened_is ∙ yes)) (λ no. due.later (sym does.opened_is ∙ no)) is
            (λ busy. does.closed_is ∙ ended_rests head_drive (steps + 1) writing does.next _ (sym (ap (λ fdc. is_executing fdc.phase) does.after_is) ∙ busy))
            (λ busy. no_index index word past (in_execution (wrote index word (stepped past)) sent deleted between.phase between.asking between.fifo then_is busy));
        there = λ _. (met was due).has;
        unbarred = was.unbarred;
      }
  fast_time was Stopped is does guards then_is = record {
    at = subst (λ b. IsAtDrive outset (stepped late) b after) (sym (ap (λ fdc. is_executing fdc.phase) does.after_is)) (stopped_on outset late drive after valid was.at is);
    there = was.there;
    unbarred = was.unbarred;
  }

  -- while the medium spins up no address field was heard, and so no word is due
  no_due : IsUnheard late → is_due writing.stage ≡ true → ⊥
  no_due none due =
      let is = due_now past writing.wanted.key writing.deleted handed writing.stage on.writes due in
      let here = address_in lead late.turns late.seen is.place writing.wanted.key is.address in
      let inside = here.address.sound.inside in
      let nothing = ap (λ (p : Past). length p.seen) none in
      omega arith

  -- the step that ends the command is counted
  spun_stopped : IsUnheard late → IsTurningIn outset after → IsAtWindow outset (stepped late) false after
  spun_stopped none turning =
      let rests = window_unheard outset late false after valid none turning (λ busy. absurd (false≢true busy)) in
      let no_steps = ap (λ (p : Past). p.steps) none in
      let room = turning.inside in
      record {
        at = record {
          hears = rests.at.hears;
          medium = rests.at.medium;
          unprotected = rests.at.unprotected;
          fits = rests.at.fits;
          barred = rests.at.barred;
          early = omega arith;
          inside = rests.at.inside;
          index = rests.at.index;
          works = λ no. absurd (false≢true no);
        };
        there = rests.there;
        unbarred = rests.unbarred;
      }

  spun_time : IsUnheard late → IsSpinning outset 0 drive → (time : WordTime) → IsTime time outset.rate outset.head drive after → WriteDoes time head_drive steps writing polls drive between
      → (steps ≡ 0 → is_protected drive.medium ≡ true → time ≡ Stopped) → IsWindowLed outset (after_time time past) (is_executing between.phase) after
  spun_time none spins (Saw index word) is (due, does) guards =
      let unprotected = spun_unprotected outset lead late drive steps guarded none spins on.steps_are (λ first covered. false≢true (ap is_stopped (guards first covered))) in
      let calm : heard index word (stepped past) ≡ led (lead + 1) (passed_by late) =
      ap (λ i. heard i word (stepped past)) (is.index_is ∙ spins_on outset 0 drive spins)
      ∙ (ap (λ w. heard false w (stepped past)) (hears_none outset 0 drive spins after word is.sees) ∙ longer_led lead late none) in
      subst (λ p. IsWindowLed outset p (is_executing between.phase) after) (sym calm)
      (window_first outset (lead + 1) (passed_by late) (is_executing between.phase) after valid (still_unheard late none) (turning_on outset 0 drive spins after is.passes) (λ _. unprotected))
  spun_time none spins (KeptOut index word) is (opening, does) guards = absurd (no_due none (opens_due writing.stage opening))
  spun_time none spins (Wrote opened closed index word) is does guards = absurd (no_due none does.due)
  spun_time none spins Stopped is does guards = record {
    lead = lead;
    late = stepped late;
    past_is = time_led lead late Stopped;
    guarded = guarded;
    drive_is = inr (subst (λ b. IsAtWindow outset (stepped late) b after) (sym (ap (λ fdc. is_executing fdc.phase) does.after_is)) (spun_stopped none (turning_on outset 0 drive spins after (becomes_at (let_pass drive) drive after is refl refl))));
  }

  pub window_timed : (IsUnheard late × IsSpinning outset 0 drive) ⊎ IsAtWindow outset late true drive → (time : WordTime) → IsTime time outset.rate outset.head drive after
      → WriteDoes time head_drive steps writing polls drive between → (steps ≡ 0 → is_protected drive.medium ≡ true → time ≡ Stopped) → MayWrite (after_time time past) sent deleted between
      → IsWindowLed outset (after_time time past) (is_executing between.phase) after
  window_timed (inl (none, spins)) time is does guards then_is = spun_time none spins time is does guards
  window_timed (inr was) time is does guards then_is = record {
    lead = lead;
    late = after_time time late;
    past_is = time_led lead late time;
    guarded = guarded;
    drive_is = inr (fast_time was time is does guards then_is);
  }
