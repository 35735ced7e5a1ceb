-- One more attempt at a write, after others.
use Rattle.std.proofs.Common.{MatchOption, ◌≡◌, ◌≢◌, ℕ, ◌+◌, ◌*◌, ◌⊎◌, List, length, Option, Some, None, Result, Err, refl, sym, ap, ◌∙◌, subst, arith, inl, inr}
use Rattle.floppy_driver.proofs.Common.{cases_eq, Chrn, Rate, Code, Disk, IsDisk, HasTrack, track_of, IsAddressAt, IsRegular, IsCut, IsTidy, IsUndisturbed, GoesOn, IsDriven, goes_on_after, faults_go_on, met_in, MeetsTrack, IsRegularDisk, Change, Written, window_of, IsChange, AreAlike, HasWritten, IsWholeChange, change_at, IsSameOrChanged, met_track, length-met_track, met_from_mark, one_met, still_meets, window_inside, window_in_disk, key_cylinder, change_keeps_tracks, change_is_written, rewritten_keeps_tracks, rewritten_keeps_sectors, rewritten_more, rewritten_cylinder, rewritten_whole, Bay, StationState, bay_of, met, IsSteady, IsSure, IsMissCause, ChangesBay, TriesWrite, WroteWhole}
use Rattle.floppy_driver.proofs.TriedWrites.{IsWriteStart, IsSpared, IsSameOrCut, with_change, KeptSoFar, WroteSoFar, IsLastCause, HasTriedWrite}
use Rattle.floppy_driver.proofs.Shows.{driven_after, undisturbed_faultless}
use Rattle.floppy_driver.proofs.Attempts.{spoilt_more}
use Rattle.floppy_driver.proofs.Rising.{disturbed_first, disturbed_later, stalls_later, rose_later, commands_later}
use Rattle.floppy_driver.proofs.WriteChanges.{reaches_more, reached_alike, few_more, steady_more, last_whole, becomes_later, bay_after}
use Rattle.floppy_driver.proofs.LaidTracks.{same_some}
use Rattle.floppy_driver.proofs.WriteTracks.{cut_keeps, cut_more, never_refused}

-- if an address field is met, it is on a track of the disk that is in
pub meets_field : (medium : Option Disk) (rate : Rate) (c h p : ℕ) (key : Chrn) (disk : Disk) → medium ≡ Some disk → IsAddressAt (met_in medium rate c h) p key → MeetsTrack medium rate c h disk
meets_field medium rate c h p key disk is here =
    let found = met_from_mark medium rate c h (p, here.mark) in
    subst (λ d. MeetsTrack medium rate c h d) (one_met medium rate c h disk found.0 is found.1) found.1

spared_first : (written : Written) (place : ℕ) (track : List ℕ) (bay : ℕ) (start mid new : StationState) → GoesOn start.counters mid.counters → GoesOn mid.counters new.counters → IsSpared written place track bay start new → IsSpared written place track bay start mid
spared_first written place track bay start mid new one two (inl tidy) = inl tidy
spared_first written place track bay start mid new one two (inr quiet) = inr (disturbed_first bay start.counters mid.counters new.counters one two 1 quiet)

module _ (written : Written) (bay : ℕ) (start mid new : StationState) (count : ℕ) (sure : Type 0) (answer : Result (Unit {0}) Code) (starts : IsWriteStart written bay start) (so_far : WroteSoFar written bay count start mid) (attempt : TriesWrite sure written bay mid answer new) where
  -- the bay keeps its rate and its acknowledgement
  bay_mid : bay_of mid bay ≡ record (bay_of start bay) { medium = (bay_of mid bay).medium }
  bay_mid = bay_after start mid bay (bay_of mid bay).medium so_far.becomes

  bay_new : bay_of new bay ≡ record (bay_of mid bay) { medium = (bay_of new bay).medium }
  bay_new = bay_after mid new bay (bay_of new bay).medium attempt.becomes

  pub rate_mid : (bay_of mid bay).rate ≡ (bay_of start bay).rate
  rate_mid = ap (λ (b : Bay). b.rate) bay_mid

  rate_new : (bay_of new bay).rate ≡ (bay_of mid bay).rate
  rate_new = ap (λ (b : Bay). b.rate) bay_new

  -- ---- the track of the key

  module _ (p : ℕ) (regular : IsRegular (met (bay_of start bay) written.key.c written.key.h) written.key.c written.key.h) (here : IsAddressAt (met (bay_of start bay) written.key.c written.key.h) p written.key) (spared : IsSpared written p (met (bay_of start bay) written.key.c written.key.h) bay start new) where
    first : (disk : Disk) × MeetsTrack (bay_of start bay).medium (bay_of start bay).rate written.key.c written.key.h disk
    first = met_from_mark (bay_of start bay).medium (bay_of start bay).rate written.key.c written.key.h (p, here.mark)

    middle : (disk : Disk) × ((bay_of mid bay).medium ≡ Some disk) × AreAlike first.0 disk
    middle = reached_alike written (bay_of start bay).medium so_far.changes (bay_of mid bay).medium first.0 first.1.is_in (starts.valid first.0 first.1.is_in) so_far.reach

    meets_mid : MeetsTrack (bay_of mid bay).medium (bay_of mid bay).rate written.key.c written.key.h middle.0
    meets_mid =
        rw rate_mid (still_meets (bay_of start bay).medium (bay_of start bay).rate written.key.c written.key.h first.0 middle.0 (bay_of mid bay).medium first.1 middle.2 middle.1)

    met_mid : met (bay_of mid bay) written.key.c written.key.h ≡ track_of middle.0 written.key.c written.key.h
    met_mid = met_track (bay_of mid bay).medium (bay_of mid bay).rate written.key.c written.key.h middle.0 meets_mid

    same_mid : IsSameOrCut written p (met (bay_of start bay) written.key.c written.key.h) (met (bay_of mid bay) written.key.c written.key.h)
    same_mid =
        so_far.track regular p here
        (spared_first written p (met (bay_of start bay) written.key.c written.key.h) bay start mid new so_far.counts attempt.counts spared)

    kept_mid : IsRegular (met (bay_of mid bay) written.key.c written.key.h) written.key.c written.key.h × IsAddressAt (met (bay_of mid bay) written.key.c written.key.h) p written.key
    kept_mid =
        cut_keeps written (met (bay_of start bay) written.key.c written.key.h) written.key.c written.key.h p regular here starts.fits
        (met (bay_of mid bay) written.key.c written.key.h) same_mid

    module _ (one : Change) (changed : ChangesBay written bay one mid new) where
      made : IsChange written middle.0 one changed.after
      made = subst (λ d. IsChange written d one changed.after) (same_some changed.before middle.0 (sym changed.was ∙ middle.1)) changed.makes

      meets_new : MeetsTrack (bay_of new bay).medium (bay_of new bay).rate written.key.c written.key.h changed.after
      meets_new =
          rw rate_new (still_meets (bay_of mid bay).medium (bay_of mid bay).rate written.key.c written.key.h middle.0 changed.after (bay_of new bay).medium meets_mid
          (change_keeps_tracks written middle.0 one changed.after made).alike changed.is)

      met_new : met (bay_of new bay) written.key.c written.key.h ≡ track_of changed.after written.key.c written.key.h
      met_new = met_track (bay_of new bay).medium (bay_of new bay).rate written.key.c written.key.h changed.after meets_new

      -- the change was on another cylinder
      changed_elsewhere : one.cylinder ≢ written.key.c → met (bay_of new bay) written.key.c written.key.h ≡ met (bay_of mid bay) written.key.c written.key.h
      changed_elsewhere other =
          met_new
          ∙ (change_keeps_tracks written middle.0 one changed.after made).others written.key.c written.key.h meets_mid.has (λ e _. other (sym e))
          ∙ sym met_mid

      -- the change was on the cylinder of the key
      module _ (on : one.cylinder ≡ written.key.c) where
        made_on : IsChange written middle.0 (change_at written.key.c one.place one.words) changed.after
        made_on = subst (λ c. IsChange written middle.0 (change_at c one.place one.words) changed.after) on made

        address_on : IsAddressAt (met (bay_of mid bay) written.key.c written.key.h) one.place written.key
        address_on = subst (λ t. IsAddressAt t one.place written.key) (sym met_mid) made_on.address

        at_place : one.place ≡ p
        at_place = kept_mid.0.keys.distinct one.place p written.key address_on kept_mid.1

        made_there : IsChange written middle.0 (change_at written.key.c p one.words) changed.after
        made_there = subst (λ q. IsChange written middle.0 (change_at written.key.c q one.words) changed.after) at_place made_on

        cut_there : IsCut (met (bay_of mid bay) written.key.c written.key.h) (met (bay_of new bay) written.key.c written.key.h) p one.words (window_of written)
        cut_there =
            rw met_mid (record { cuttable = made_there.cuttable; is = met_new ∙ made_there.cut.has })

        whole_quiet : IsUndisturbed bay mid.counters new.counters → IsWholeChange written one
        whole_quiet quiet =
            let inside = window_inside (met (bay_of mid bay) written.key.c written.key.h) written.key.c written.key.h one.place written.key kept_mid.0 address_on in
            let valid : IsDisk middle.0 = middle.2.valid in
            let long = length-met_track (bay_of mid bay).medium (bay_of mid bay).rate written.key.c written.key.h middle.0 valid meets_mid in
            let same : changed.before.words_per_track ≡ middle.0.words_per_track = ap (λ (d : Disk). d.words_per_track) (same_some changed.before middle.0 (sym changed.was ∙ middle.1)) in
            changed.whole quiet (omega arith)

        safe : IsTidy (met (bay_of start bay) written.key.c written.key.h) p written.deleted written.content ⊎ (one.words ≡ length (window_of written))
        safe = elim spared [
          | inl tidy ↦ inl tidy
          | inr quiet ↦ inr (whole_quiet (disturbed_later bay start.counters mid.counters new.counters so_far.counts attempt.counts 1 quiet))
        ]

        changed_on : IsSameOrCut written p (met (bay_of start bay) written.key.c written.key.h) (met (bay_of new bay) written.key.c written.key.h)
        changed_on =
            cut_more written (met (bay_of start bay) written.key.c written.key.h) written.key.c written.key.h p regular here starts.fits
            (met (bay_of mid bay) written.key.c written.key.h) (met (bay_of new bay) written.key.c written.key.h) one.words same_mid cut_there safe

      changed_track : IsSameOrCut written p (met (bay_of start bay) written.key.c written.key.h) (met (bay_of new bay) written.key.c written.key.h)
      changed_track = elim (cases_eq one.cylinder written.key.c) [
        | inl on ↦ changed_on on
        | inr other ↦ subst (IsSameOrCut written p (met (bay_of start bay) written.key.c written.key.h)) (sym (changed_elsewhere other)) same_mid
      ]

      -- a whole window is there
      wrote_there : one.cylinder ≡ written.key.c → IsWholeChange written one → HasWritten written one.place (met (bay_of new bay) written.key.c written.key.h)
      wrote_there on whole =
          let there : IsRegular (track_of middle.0 written.key.c written.key.h) written.key.c written.key.h = subst (λ t. IsRegular t written.key.c written.key.h) met_mid kept_mid.0 in
          subst (λ t. HasWritten written one.place t) (sym met_new)
          (change_is_written written middle.0 (change_at written.key.c one.place one.words) changed.after (made_on on) written.key.c written.key.h there starts.fits whole)

    track_by : (change : Option Change) → MatchOption change ((bay_of new bay).medium ≡ (bay_of mid bay).medium) (λ one. ChangesBay written bay one mid new) → IsSameOrCut written p (met (bay_of start bay) written.key.c written.key.h) (met (bay_of new bay) written.key.c written.key.h)
    track_by None same =
        let stays : met (bay_of new bay) written.key.c written.key.h ≡ met (bay_of mid bay) written.key.c written.key.h = ap (λ (b : Bay). met b written.key.c written.key.h) (bay_new ∙ ap (λ (m : Option Disk). record (bay_of mid bay) { medium = m }) same) in
        subst (IsSameOrCut written p (met (bay_of start bay) written.key.c written.key.h)) (sym stays) same_mid
    track_by (Some one) changed = changed_track one changed

    wrote_by : (change : Option Change) → MatchOption change ((bay_of new bay).medium ≡ (bay_of mid bay).medium) (λ one. ChangesBay written bay one mid new) → MatchOption change (Unit {0}) (λ one. one.cylinder ≡ written.key.c) → WroteWhole written change → (q : ℕ) × HasWritten written q (met (bay_of new bay) written.key.c written.key.h)
    wrote_by None same on whole = absurd whole
    wrote_by (Some one) changed on whole = (one.place, wrote_there one changed on whole)

  -- ---- a regular disk

  module _ (disk : Disk) (is : (bay_of start bay).medium ≡ Some disk) (regular : IsRegularDisk disk) where
    so_kept : KeptSoFar written bay disk start mid
    so_kept = so_far.regular disk is regular

    none_by : (change : Option Change) → MatchOption change ((bay_of new bay).medium ≡ (bay_of mid bay).medium) (λ one. ChangesBay written bay one mid new) → ((p : ℕ) → IsAddressAt (met (bay_of start bay) written.key.c written.key.h) p written.key → ⊥) → (bay_of new bay).medium ≡ Some disk
    none_by None same absent = same ∙ so_kept.none absent
    none_by (Some one) changed absent =
        let same : changed.before ≡ disk = same_some changed.before disk (sym changed.was ∙ so_kept.none absent) in
        let made : IsChange written disk one changed.after = subst (λ d. IsChange written d one changed.after) same changed.makes in
        let on : written.key.c ≡ one.cylinder = (key_cylinder disk one.cylinder written.key.h one.place written.key regular made.track made.address).0 in
        let meets : MeetsTrack (bay_of start bay).medium (bay_of start bay).rate written.key.c written.key.h disk = record { is_in = is; has = subst (λ c. HasTrack disk c written.key.h) (sym on) made.track; same_rate = ap (λ (d : Disk). d.rate) (sym same) ∙ changed.same_rate ∙ rate_mid } in
        let there = met_track (bay_of start bay).medium (bay_of start bay).rate written.key.c written.key.h disk meets in
        absurd (absent one.place (subst (λ t. IsAddressAt t one.place written.key) (sym there) (subst (λ c. IsAddressAt (track_of disk c written.key.h) one.place written.key) (sym on) made.address)))

    module _ (p : ℕ) (here : IsAddressAt (met (bay_of start bay) written.key.c written.key.h) p written.key) (spared : IsSpared written p (met (bay_of start bay) written.key.c written.key.h) bay start new) where
      meets_disk : MeetsTrack (bay_of start bay).medium (bay_of start bay).rate written.key.c written.key.h disk
      meets_disk = meets_field (bay_of start bay).medium (bay_of start bay).rate written.key.c written.key.h p written.key disk is here

      met_disk : met (bay_of start bay) written.key.c written.key.h ≡ track_of disk written.key.c written.key.h
      met_disk = met_track (bay_of start bay).medium (bay_of start bay).rate written.key.c written.key.h disk meets_disk

      here_disk : IsAddressAt (track_of disk written.key.c written.key.h) p written.key
      here_disk = subst (λ t. IsAddressAt t p written.key) met_disk here

      known_mid : (middle : Disk) × ((bay_of mid bay).medium ≡ Some middle) × IsSameOrChanged written p disk middle
      known_mid =
          so_kept.one p here
          (spared_first written p (met (bay_of start bay) written.key.c written.key.h) bay start mid new so_far.counts attempt.counts spared)

      module _ (one : Change) (changed : ChangesBay written bay one mid new) where
        same_before : changed.before ≡ known_mid.0
        same_before = same_some changed.before known_mid.0 (sym changed.was ∙ known_mid.1)

        made_mid : IsChange written known_mid.0 one changed.after
        made_mid = subst (λ d. IsChange written d one changed.after) same_before changed.makes

        made_cylinder : one.cylinder ≡ written.key.c
        made_cylinder = rewritten_cylinder written p disk known_mid.0 one changed.after regular starts.fits known_mid.2 made_mid

        made_whole : IsUndisturbed bay mid.counters new.counters → IsWholeChange written one
        made_whole quiet =
            let valid : IsDisk known_mid.0 = (rewritten_keeps_tracks written p disk known_mid.0 (starts.valid disk is) known_mid.2).alike.valid in
            let still : IsRegularDisk known_mid.0 = (rewritten_keeps_sectors written p disk known_mid.0 regular starts.fits known_mid.2).regular in
            let inside = window_in_disk known_mid.0 one.cylinder written.key.h one.place written.key valid still made_mid.track made_mid.address in
            let same : changed.before.words_per_track ≡ known_mid.0.words_per_track = ap (λ (d : Disk). d.words_per_track) same_before in
            changed.whole quiet (omega arith)

        made_safe : IsTidy (track_of disk written.key.c written.key.h) p written.deleted written.content ⊎ IsWholeChange written one
        made_safe = elim spared [
          | inl tidy ↦ inl (subst (λ t. IsTidy t p written.deleted written.content) met_disk tidy)
          | inr quiet ↦ inr (made_whole (disturbed_later bay start.counters mid.counters new.counters so_far.counts attempt.counts 1 quiet))
        ]

        made_again : IsSameOrChanged written p disk changed.after
        made_again =
            rewritten_more written p disk known_mid.0 one changed.after written.key.c written.key.h (regular written.key.c written.key.h meets_disk.has)
            here_disk starts.fits made_safe known_mid.2 made_cylinder made_mid

        made_written : IsWholeChange written one → HasWritten written p (track_of changed.after written.key.c written.key.h)
        made_written whole =
            rewritten_whole written p disk known_mid.0 one changed.after written.key.c written.key.h (regular written.key.c written.key.h meets_disk.has)
            here_disk starts.fits known_mid.2 made_cylinder made_mid whole

      -- a whole window is there, and nothing else under its key
      written_by : (change : Option Change) → MatchOption change ((bay_of new bay).medium ≡ (bay_of mid bay).medium) (λ one. ChangesBay written bay one mid new) → WroteWhole written change → (after : Disk) × ((bay_of new bay).medium ≡ Some after) × HasWritten written p (track_of after written.key.c written.key.h)
      written_by None same whole = absurd whole
      written_by (Some one) changed whole = (changed.after, changed.is, made_written one changed whole)

      pub written_whole : WroteWhole written attempt.change → (after : Disk) × ((bay_of new bay).medium ≡ Some after) × HasWritten written p (track_of after written.key.c written.key.h)
      written_whole = written_by attempt.change attempt.does

      one_by : (change : Option Change) → MatchOption change ((bay_of new bay).medium ≡ (bay_of mid bay).medium) (λ one. ChangesBay written bay one mid new) → (after : Disk) × ((bay_of new bay).medium ≡ Some after) × IsSameOrChanged written p disk after
      one_by None same = (known_mid.0, same ∙ known_mid.1, known_mid.2)
      one_by (Some one) changed = (changed.after, changed.is, made_again one changed)

    kept_more : KeptSoFar written bay disk start new
    kept_more = record {
      none = none_by attempt.change attempt.does;
      one = λ p here spared. one_by p here spared attempt.change attempt.does;
    }

  -- ---- all of it

  all_counts : GoesOn start.counters new.counters
  all_counts = goes_on_after start.counters mid.counters new.counters so_far.counts attempt.counts

  steady_mid : IsSteady bay start new → IsSteady bay start mid
  steady_mid steady =
      let kept = so_far.kept steady.kept steady.acknowledged in
      let more = faults_go_on mid.counters new.counters bay attempt.counts in
      let counted = steady.count in
      record { kept = steady.kept; acknowledged = steady.acknowledged; count = omega arith; below = steady.below }

  steady_new : IsSteady bay start new → IsSteady bay mid new
  steady_new steady = record {
    kept = steady.kept;
    acknowledged = ap (λ (b : Bay). b.acknowledged) bay_mid ∙ steady.acknowledged;
    count = steady.count;
    below = steady.below;
  }

  here_at : attempt.cylinder ≡ written.key.c → MatchOption attempt.change (Unit {0}) (λ one. one.cylinder ≡ written.key.c)
  here_at on = subst (λ (c : ℕ). MatchOption attempt.change (Unit {0}) (λ one. one.cylinder ≡ c)) on attempt.here

  pub wrote_more : WroteSoFar written bay (count + 1) start new
  wrote_more = record {
    changes = with_change so_far.changes attempt.change;
    few = few_more so_far.changes attempt.change count so_far.few;
    reach = reaches_more written bay mid new (bay_of start bay).medium so_far.changes attempt.change so_far.reach attempt.does;
    becomes = becomes_later start mid new bay (bay_of mid bay).medium (bay_of new bay).medium so_far.becomes attempt.becomes;
    kept = λ kept e.
        let less = so_far.kept kept e in
        let more = faults_go_on mid.counters new.counters bay attempt.counts in
        omega arith;
    steady = λ steady.
        steady_more written.key.c so_far.changes attempt.change (so_far.steady (steady_mid steady)) (here_at (attempt.steady (steady_new steady)));
    regular = kept_more;
    track = λ regular p here spared. track_by p regular here spared attempt.change attempt.does;
    counts = all_counts;
    driven =
        let twice : 2 * count + 2 ≡ 2 * (count + 1) = omega arith in
        subst (λ (n : ℕ). IsDriven n start.counters new.counters) twice
        (driven_after (2 * count) 2 start.counters mid.counters new.counters so_far.counts attempt.counts so_far.driven attempt.driven);
  }

  pub wrote_changes : wrote_more.changes ≡ with_change so_far.changes attempt.change
  unfolding wrote_more
  wrote_changes = refl

  -- ---- the attempt was refused

  module _ (code : Code) (refused : IsMissCause written (met (bay_of new bay) attempt.cylinder written.key.h) attempt.change bay mid.counters code new.counters) where
    quiet_later : IsUndisturbed bay start.counters new.counters → IsUndisturbed bay mid.counters new.counters
    quiet_later = disturbed_later bay start.counters mid.counters new.counters so_far.counts attempt.counts 1

    on_key : sure → IsUndisturbed bay mid.counters new.counters → attempt.cylinder ≡ written.key.c
    on_key is_sure quiet = attempt.surely is_sure (undisturbed_faultless bay mid.counters new.counters attempt.counts quiet)

    refused_on : attempt.cylinder ≡ written.key.c → IsMissCause written (met (bay_of new bay) written.key.c written.key.h) attempt.change bay mid.counters code new.counters
    refused_on on = subst (λ (c : ℕ). IsMissCause written (met (bay_of new bay) c written.key.h) attempt.change bay mid.counters code new.counters) on refused

    last_cause : sure → IsLastCause written (met (bay_of new bay) written.key.c written.key.h) (with_change so_far.changes attempt.change) bay start code new
    last_cause is_sure =
        let at : IsUndisturbed bay start.counters new.counters → IsMissCause written (met (bay_of new bay) written.key.c written.key.h) attempt.change bay mid.counters code new.counters = λ quiet. refused_on (on_key is_sure (quiet_later quiet)) in
        record {
          device = refused.device;
          no_mark = λ e quiet.
              elim ((at quiet).no_mark e (quiet_later quiet)) [
                | inl none ↦ inl none
                | inr (inl out) ↦ inr (inl out)
                | inr (inr seen) ↦ inr (inr (last_whole written so_far.changes attempt.change seen.0, seen.1))
              ];
          not_found = λ e quiet. (at quiet).not_found e (quiet_later quiet);
          bad_data = λ e quiet.
              let why = (at quiet).bad_data e (quiet_later quiet) in
              (last_whole written so_far.changes attempt.change why.0, why.1);
          overrun = λ e. stalls_later bay start.counters mid.counters new.counters so_far.counts attempt.counts 1 (refused.overrun e);
          lost = λ e. rose_later bay start.counters mid.counters new.counters so_far.counts attempt.counts 77 (refused.lost e);
          sent = λ other. commands_later bay start.counters mid.counters new.counters so_far.counts attempt.counts 1 (refused.sent other);
          read_back = λ e. commands_later bay start.counters mid.counters new.counters so_far.counts attempt.counts 2 (refused.read_back e);
        }

    module _ (p : ℕ) (regular : IsRegular (met (bay_of start bay) written.key.c written.key.h) written.key.c written.key.h) (here : IsAddressAt (met (bay_of start bay) written.key.c written.key.h) p written.key) (spared : IsSpared written p (met (bay_of start bay) written.key.c written.key.h) bay start new) where
      refused_never : sure → IsUndisturbed bay mid.counters new.counters → ⊥
      refused_never is_sure quiet =
          let on = on_key is_sure quiet in
          let kept = cut_keeps written (met (bay_of start bay) written.key.c written.key.h) written.key.c written.key.h p regular here starts.fits (met (bay_of new bay) written.key.c written.key.h) (track_by p regular here spared attempt.change attempt.does) in
          never_refused written (met (bay_of new bay) written.key.c written.key.h) written.key.c written.key.h p attempt.change bay code mid.counters new.counters
          kept.0 kept.1 attempt.counts quiet (wrote_by p regular here spared attempt.change attempt.does (here_at on)) (refused_on on)

-- ---- one more refusal

pub tried_more : (written : Written) (bay : ℕ) (start mid new : StationState) (count : ℕ) (before code : Code) → IsWriteStart written bay start → HasTriedWrite written bay count start before mid → TriesWrite (IsSure start.tries (count + 1)) written bay mid (Err code) new → HasTriedWrite written bay (count + 1) start code new
unfolding wrote_more
tried_more written bay start mid new count before code starts tried attempt = record {
  so_far = wrote_more written bay start mid new count (IsSure start.tries (count + 1)) (Err code) starts tried.so_far attempt;
  unsent = λ some is.
      let idle = (attempt.unsent (ap (λ c. Err c) is)).most_commands in
      let earlier = tried.so_far.driven.most_commands in
      omega arith;
  last = λ some is_sure. last_cause written bay start mid new count (IsSure start.tries (count + 1)) (Err code) starts tried.so_far attempt code attempt.refused is_sure;
  spoilt = λ regular p here spared.
      spoilt_more start.tries count bay start.counters mid.counters new.counters starts.some_tries tried.so_far.counts attempt.counts
      (goes_on_after start.counters mid.counters new.counters tried.so_far.counts attempt.counts)
      (tried.spoilt regular p here (spared_first written p (met (bay_of start bay) written.key.c written.key.h) bay start mid new tried.so_far.counts attempt.counts spared))
      (refused_never written bay start mid new count (IsSure start.tries (count + 1)) (Err code) starts tried.so_far attempt code attempt.refused p regular here spared);
}
