-- Writes of the bench.
use Rattle.std.proofs.Common.{◌≡◌, ℕ, zero, suc, ◌+◌, ◌-◌, ◌≤◌, true, false, List, length, take, drop, Option, Some, None, Result, Ok, Err, IfErr, MatchOption, refl, sym, ap, ◌∙◌, subst, arith, inl, inr}
use Rattle.test_driver.proofs.Common.{false≢true, Chrn, Rate, Code, NoMark, Disk, IsDisk, track_of, IsAddressAt, window_word, window_words, Two, in_bay, with_bay, GoesOn, IsDriven, bytes_from, drive_same, met_in, MeetsTrack, Change, Written, window_of, IsChange, change_at, FitsKey, nothing_from, met_track, one_met, length-track_of, Rig, track_under, SendsWrite, WritesData, ChangesMedium, IsWriteMiss, HasWindowOut, BenchCounts, BenchDrive, HasSent, SameDrive, IsCutTo, PutsWindow, HasFieldOn, IsAbsent, ChangesOn, IsWriteRefusal, WritesOn, rig_of}
use Rattle.sector_map.specs.KeptDisks.{KeepsTracks}
use Rattle.sector_map.proofs.KeptTracks.{still_meets, length-alike}
use Rattle.sector_map.proofs.Changed.{length-window_of, change_keeps_tracks, change_keeps_address}

-- ---- no address field of the key

pub wrote_absent : (medium : Option Disk) (rate : Rate) (c : ℕ) (written : Written) (code : Code) → IsAbsent (met_in medium rate c written.key.h) written.key code → WritesOn rate c written None medium (Err code) medium
wrote_absent medium rate c written code absent = record {
  does = refl;
  done = λ ok. absurd (false≢true ok);
  refused = elim absent.by_code [
    | inl e ↦ subst (IsWriteRefusal (met_in medium rate c written.key.h) written.key) (sym e.0) (record {
      coded = tt;
      reason = inl (nothing_from _ e.1).clear_marks;
      no_overrun = λ is. cc is;
    })
    | inr e ↦ subst (IsWriteRefusal (met_in medium rate c written.key.h) written.key) (sym e.0) (record {
      coded = tt;
      reason = (e.1, λ clear. absent.none clear.0 clear.1.address);
      no_overrun = λ is. cc is;
    })
  ];
}

-- ---- an address field of the key

pub record IsHere (medium : Option Disk) (rate : Rate) (c : ℕ) (key : Chrn) (p : ℕ) (disk : Disk) : Type 0 where
  pub meets : MeetsTrack medium rate c key.h disk
  pub address : IsAddressAt (track_of disk c key.h) p key

pub field_here : (medium : Option Disk) (rate : Rate) (c : ℕ) (key : Chrn) (p : ℕ) (d : Disk) → HasFieldOn medium rate c key p → medium ≡ Some d → IsHere medium rate c key p d
field_here medium rate c key p d field is =
    let found = field.under in
    subst (IsHere medium rate c key p) (one_met medium rate c key.h d found.disk is found.meets) (record {
      meets = found.meets;
      address = subst (λ track. IsAddressAt track p key) found.is field.address;
    })

module _ (written : Written) (fits : FitsKey written) (rate : Rate) (c p : ℕ) (d after : Disk) (medium : Option Disk) (is_in : medium ≡ Some d) (valid : IsDisk d) (here : IsHere medium rate c written.key p d) where
  abbrev key : Chrn
  key = written.key

  abbrev track : List ℕ
  track = track_of d c key.h

  long : length track ≡ d.words_per_track
  long = length-track_of d c key.h valid here.meets.has

  module _ (k : ℕ) (put : IsCutTo c key.h p k (window_of written) d after) where
    abbrev change : Change
    change = change_at c p k

    is_change : IsChange written d change after
    is_change = record { track = here.meets.has; address = here.address; cuttable = put.cuttable; cut = put.cut }

    keeps : KeepsTracks d c key.h after
    keeps = change_keeps_tracks written d change after is_change

    changes : (window_word p + window_words key.n ≤ d.words_per_track → k ≡ length (window_of written)) → ChangesOn rate c written change medium (Some after)
    changes whole = record {
      disk = d;
      made = after;
      was = is_in;
      is = refl;
      same_rate = here.meets.same_rate;
      here = refl;
      makes = is_change;
      whole = whole;
    }

    cut_now : (window_word p + window_words key.n ≤ length track → ⊥) → HasWindowOut (met_in (Some after) rate c key.h) key
    cut_now outside =
        let meets_now = still_meets medium rate c key.h d after (Some after) here.meets (keeps).alike refl in
        subst (λ row. HasWindowOut row key) (sym (met_track (Some after) rate c key.h after meets_now))
        (p, change_keeps_address written d change after is_change, λ inside. outside (omega (arith, length-alike d after c key.h valid (keeps).alike here.meets.has)))

  refused_out : (now : Option Disk) → HasWindowOut (met_in now rate c key.h) key → IsWriteRefusal (met_in now rate c key.h) key NoMark
  refused_out now out = record { coded = tt; reason = inr out; no_overrun = λ is. cc is }

  pub wrote_cut : (words : List ℕ) → words ≡ window_of written → PutsWindow c key.h p words d false after → (one : Option Change) × WritesOn rate c written one medium (Err NoMark) (Some after)
  wrote_cut words is put =
      let outside : window_word p + window_words key.n ≤ length track → ⊥ = λ inside. put.0 (omega (arith, ap length is, length-window_of written fits)) in
      elim put.1 [
        | inl same ↦
            let back : Some after ≡ medium = ap (λ f. Some f) same ∙ sym is_in in
            let out : HasWindowOut (met_in medium rate c key.h) key =
            subst (λ row. HasWindowOut row key) (sym (met_track medium rate c key.h d here.meets)) (p, here.address, outside) in (
              None,
              record {
                does = back;
                done = λ ok. absurd (false≢true ok);
                refused = refused_out (Some after) (subst (λ m. HasWindowOut (met_in m rate c key.h) key) (sym back) out);
              },
            )
        | inr (k, cut) ↦
            let done = subst (λ row. IsCutTo c key.h p k row d after) is cut in (
              Some (change k done),
              record {
                does = changes k done (λ inside. absurd (outside (omega (arith, long))));
                done = λ ok. absurd (false≢true ok);
                refused = refused_out (Some after) (cut_now k done outside);
              },
            )
      ]

  pub wrote_whole : (words : List ℕ) → words ≡ window_of written → PutsWindow c key.h p words d true after → (one : Option Change) × WritesOn rate c written one medium (Ok tt) (Some after)
  wrote_whole words is put =
      let Put : List ℕ → Type 0 = λ row. IsCutTo c key.h p (length row) row d after in
      let done = subst Put is put in (
        Some (change (length (window_of written)) done),
        record { does = changes (length (window_of written)) done (λ inside. refl); done = λ ok. refl; refused = tt },
      )

-- ---- the step of the rig

-- a bay is the first or the second
by_bay : (P : ℕ → Type 0) → P 0 → P 1 → (bay : ℕ) → bay ≤ 1 → P bay
by_bay P first second zero le = first
by_bay P first second (suc zero) le = second
by_bay P first second (suc (suc bay)) le = absurd (omega (arith, le))

module _ (drives : Two BenchDrive) (memory page : List ℕ) (counts next : BenchCounts) (after : BenchDrive) (sent : HasSent counts next) where
  abbrev old : Rig
  old = rig_of drives memory page counts

  abbrev new : ℕ → Rig
  new bay = rig_of (with_bay drives bay after) memory page next

  counts_first : SameDrive drives.first after → GoesOn old.counters (new 0).counters × IsDriven 1 old.counters (new 0).counters
  counts_first same =
      let stalls = sent.stalls in
      let most = sent.commands.most in
      let never = sent.commands.never_falls in
      let taken = sent.taken.rose in
      let never_taken = sent.taken.never_falls in (
        record {
          first = drive_same _ _ (ap (λ n. record { faults = n; left = None }) same.faults);
          second = drive_same _ _ refl;
          spares = refl;
          stalls = omega arith;
          stalls_spent = omega arith;
          data_commands = omega arith;
          taken = omega arith;
          direct = omega arith;
        },
        record { most_commands = omega arith; interrupts = omega arith; past_driver = refl },
      )

  counts_second : SameDrive drives.second after → GoesOn old.counters (new 1).counters × IsDriven 1 old.counters (new 1).counters
  counts_second same =
      let stalls = sent.stalls in
      let most = sent.commands.most in
      let never = sent.commands.never_falls in
      let taken = sent.taken.rose in
      let never_taken = sent.taken.never_falls in (
        record {
          first = drive_same _ _ refl;
          second = drive_same _ _ (ap (λ n. record { faults = n; left = None }) same.faults);
          spares = refl;
          stalls = omega arith;
          stalls_spent = omega arith;
          data_commands = omega arith;
          taken = omega arith;
          direct = omega arith;
        },
        record { most_commands = omega arith; interrupts = omega arith; past_driver = refl },
      )

  pub sends_first : SameDrive drives.first after → SendsWrite 0 old (new 0)
  sends_first same = record {
    heads = record {
      cylinders = ap (λ n. record { first = n; second = drives.second.cylinder }) same.cylinder;
      numbers = ap (λ n. record { first = n; second = drives.second.number }) same.number;
      changes = ap (λ n. record { first = n; second = drives.second.changed }) same.changed;
      spun = record { first = λ e. same.at_speed ∙ e; second = λ e. e };
    };
    other_medium = refl;
    memory = refl;
    counts = (counts_first same).0;
    driven = (counts_first same).1;
    command = sent.commands.rose;
  }

  pub sends_second : SameDrive drives.second after → SendsWrite 1 old (new 1)
  sends_second same = record {
    heads = record {
      cylinders = ap (λ n. record { first = drives.first.cylinder; second = n }) same.cylinder;
      numbers = ap (λ n. record { first = drives.first.number; second = n }) same.number;
      changes = ap (λ n. record { first = drives.first.changed; second = n }) same.changed;
      spun = record { first = λ e. e; second = λ e. same.at_speed ∙ e };
    };
    other_medium = refl;
    memory = refl;
    counts = (counts_second same).0;
    driven = (counts_second same).1;
    command = sent.commands.rose;
  }

  -- the drive of the bay was written on, and nothing else changed
  pub record IsWrittenOn (bay : ℕ) : Type 0 where
    pub sends : SendsWrite bay old (new bay)
    pub was : in_bay old.media bay ≡ (in_bay drives bay).medium
    pub at : in_bay old.cylinders bay ≡ (in_bay drives bay).cylinder
    pub is : in_bay (new bay).media bay ≡ after.medium
    pub kept : after.medium ≡ (in_bay drives bay).medium → (new bay).media ≡ old.media

  pub written_on : (bay : ℕ) → bay ≤ 1 → SameDrive (in_bay drives bay) after → IsWrittenOn bay
  written_on =
      by_bay (λ bay. SameDrive (in_bay drives bay) after → IsWrittenOn bay)
      (λ same. record { sends = sends_first same; was = refl; at = refl; is = refl; kept = λ e. ap (λ m. record { first = m; second = drives.second.medium }) e })
      (λ same. record { sends = sends_second same; was = refl; at = refl; is = refl; kept = λ e. ap (λ m. record { first = drives.first.medium; second = m }) e })

-- a write on the drive is a write of the rig
module _ (old new : Rig) (bay : ℕ) (rate : Rate) (written : Written) (before : Option Disk) (c : ℕ) (after : Option Disk) (sends : SendsWrite bay old new) (same_page : new.page ≡ old.page) (was : in_bay old.media bay ≡ before) (at : in_bay old.cylinders bay ≡ c) (is : in_bay new.media bay ≡ after) (kept : after ≡ before → new.media ≡ old.media) where
  does : (change : Option Change) → MatchOption change (after ≡ before) (λ one. ChangesOn rate c written one before after) → MatchOption change (new.media ≡ old.media) (λ one. ChangesMedium bay rate written one old new)
  does None same = kept same
  does (Some one) made = record {
    before = made.disk;
    after = made.made;
    was = was ∙ made.was;
    is = is ∙ made.is;
    same_rate = made.same_rate;
    here = made.here ∙ sym at;
    makes = made.makes;
    whole = λ quiet inside. made.whole inside;
  }

  met_now : met_in after rate c written.key.h ≡ track_under new bay rate written.key.h
  met_now =
      let cylinder : c ≡ in_bay new.cylinders bay = sym at ∙ ap (λ two. in_bay two bay) (sym sends.heads.cylinders) in
      ap (λ m. met_in m rate c written.key.h) (sym is) ∙ ap (λ n. met_in (in_bay new.media bay) rate n written.key.h) cylinder

  refused : (answer : Result (Unit {0}) Code) → IfErr answer (λ refusal. IsWriteRefusal (met_in after rate c written.key.h) written.key refusal) → IfErr answer (λ code. IsWriteMiss (track_under new bay rate written.key.h) written.key bay old.counters code new.counters)
  refused (Ok unit) miss = tt
  refused (Err code) miss =
      let here = subst (λ row. IsWriteRefusal row written.key code) met_now miss in
      record { coded = here.coded; reason = λ quiet. here.reason; overrun = λ e. absurd (here.no_overrun e) }

  pub writes : (change : Option Change) (answer : Result (Unit {0}) Code) → WritesOn rate c written change before answer after → WritesData bay rate written change old answer new
  writes change answer on = record {
    sends = sends;
    does = does change on.does;
    done = λ ok faultless. on.done ok;
    refused = refused answer on.refused;
    page = same_page;
  }

-- the write of the bench
pub bench_writes : (drives taken done : Two BenchDrive) (memory page : List ℕ) (counts next : BenchCounts) (bay : ℕ) (rate : Rate) (written target : Written) (before after : BenchDrive) (answer : Result (Unit {0}) Code) → bay ≤ 1 → HasSent counts next → before ≡ in_bay drives bay → ((drive : BenchDrive) → with_bay taken bay drive ≡ with_bay drives bay drive) → done ≡ with_bay taken bay after → SameDrive before after → written ≡ target → ((change : Option Change) × WritesOn rate before.cylinder written change before.medium answer after.medium) → (change : Option Change) × WritesData bay rate target change (rig_of drives memory page counts) answer (rig_of done memory page next)
bench_writes drives taken done memory page counts next bay rate written target before after answer le sent was left put same is (change, on) =
    let on_drive = written_on drives memory page counts next after sent bay le (subst (λ (d : BenchDrive). SameDrive d after) was same) in
    let old = rig_of drives memory page counts in
    let new = rig_of (with_bay drives bay after) memory page next in
    let there = subst (λ (d : BenchDrive). WritesOn rate d.cylinder written change d.medium answer after.medium) was on in
    let step = writes old new bay rate written (in_bay drives bay).medium (in_bay drives bay).cylinder after.medium on_drive.sends refl on_drive.was on_drive.at on_drive.is on_drive.kept change answer there in
    (change, subst (λ all. WritesData bay rate target change old answer (rig_of all memory page next)) (sym (put ∙ left after)) (subst (λ w. WritesData bay rate w change old answer new) is step))

-- the bytes of a part of memory
pub bytes_part : (memory list : List ℕ) (start size count : ℕ) → list ≡ memory → size ≡ count → take (start + size - start) (drop start list) ≡ bytes_from memory start count
bytes_part memory list start size count is long =
    let counted : start + size - start ≡ count = omega arith in
    ap (λ k. take k (drop start list)) counted ∙ ap (λ row. take count (drop start row)) is
